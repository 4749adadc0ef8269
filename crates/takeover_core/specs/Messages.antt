-- Messages between the nodes and the keeper, numbered in the order of sending.
use Rattle.std.specs.Prelude.{ℕ, List, Bool, false, Option, Some, None, slice_get}
use Rattle.takeover_history.specs.declared.lease.Holder.{Holder}
use Rattle.takeover_history.specs.declared.lease.Lease.{Lease}
use Rattle.takeover_history.specs.Leases.{same_holder}
use Rattle.takeover_core.specs.declared.keeper.Message.{Message}
use Rattle.takeover_core.specs.declared.keeper.Message.TheVariants as message

abbrev pub message_at : List Message → ℕ → Option Message
message_at messages m = slice_get messages m

abbrev pub request_in : Option Message → Option Holder
request_in None = None
request_in (Some (message.Request holder)) = Some holder
request_in (Some (message.Grant lease)) = None

abbrev pub grant_in : Option Message → Option Lease
grant_in None = None
grant_in (Some (message.Request holder)) = None
grant_in (Some (message.Grant lease)) = Some lease

-- the last holder, if there is one, is this one
abbrev pub is_holder : Option Holder → Holder → Bool
is_holder None holder = false
is_holder (Some last) holder = same_holder holder last
