use Rattle.std.proofs.Common.{refl}
use Rattle.fcp_framing.specs.Versions.{mask_width}
use Rattle.fcp_framing.specs.Spelling.{up_bytes, down_bytes}
use Rattle.fcp_framing.specs.Fields.{number_at}
use Rattle.fcp_framing.specs.Refusals.{is_rising, names_below_one, first_refusal, refuses_up}
use Rattle.fcp_framing.proofs.laws.packets_in_full.Goals as goal

pub returns-clause-one : goal.returns-clause-one
unfolding mask_width up_bytes down_bytes
returns-clause-one c = record { reset = refl; first = refl; gap = refl; allocation = refl }

pub returns-clause-two : goal.returns-clause-two
unfolding mask_width up_bytes down_bytes
returns-clause-two c = record { reset = refl; first = refl; gap = refl; top = refl; allocation = refl }

pub returns-clause-refused : goal.returns-clause-refused
unfolding mask_width number_at is_rising names_below_one first_refusal refuses_up
returns-clause-refused c = record { short = refl; version = refl; kind = refl; endpoint = refl; trailing = refl; epoch = refl; much = refl; enough = refl; low = refl; lowest = refl; below = refl }
