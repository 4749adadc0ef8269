use Rattle.std.proofs.Common.{◌≡◌, ◌≢◌, ◌<◌, ◌+◌, ◌-◌, ◌*◌, ◌≤◌, ℕ, suc, List, [], ◌++◌, min, refl, sym, ap, ◌∙◌, subst, arith, rules}
use Rattle.trace_run.specs.Run.{Setting}
use Rattle.greedy_rules.specs.Schedule.{first_slot}
use Rattle.clos_topology.specs.NetSlots.{SlotCores}
use Rattle.replay_rounds.specs.Setting.{setting_of}
use Rattle.replay_rounds.specs.Standing.{slots_between}
use Rattle.window_engine.specs.Scheduled.{AreClean}
use Rattle.run_lines.specs.Text.{text_of}
use Rattle.text_output.proofs.OutputLemmas.{Passes-broken, never_ok, OnOk-always}
use Rattle.std.proofs.lemmas.List.{append_assoc}
use Rattle.report_text.specs.declared.line.Line.{Line}
use Rattle.run_text.specs.ReplayProgress.{held_lines, next_replay_lines}
use Rattle.run_text.specs.ReplayScheduled.{AreReplayCores}
use Rattle.run_text.specs.ReplayText.{steps_lines, steps_of}
use Rattle.run_text.proofs.CoreLemmas.{spliced}
use Rattle.run_text.proofs.ReplayCores.{replay_spliced, places}
use Rattle.run_text.proofs.ReplaySteps.{after_step, all_steps}
use Rattle.run_text.proofs.ReplayLoop.{agree_before, agree_in, agree_self, steps_more, steps_after, steps_stop, no_step, step_smaller}
use Rattle.window_engine.proofs.EngineFacts.{replay_within}
use Rattle.run_text.proofs.replay.put_steps.Goals as goal

pub loop-replay-init : goal.loop-replay-init
loop-replay-init g c =
    let (there, makes, none) = c.requires.cores in
    record {
      rounds = refl;
      size = c.requires.b;
      window = refl;
      held = tt;
      passed = (
        0,
        no_step c.args.trace.now c.args.replay.now c.requires.collected c.requires.allocated,
        (there, makes, λ cores named agree. (c.requires.stands cores named, ([], c.texts_follow.ensures.nothing, refl))),
      );
    }

pub loop-replay-preserved : goal.loop-replay-preserved
loop-replay-preserved g c =
    let trace = c.args.trace.now in
    let b : ℕ = c.args.b in
    let w : ℕ = c.args.replay.now.g in
    let old = c.loop-replay.replay in
    let inv = c.loop-replay.invariant in
    let more : old.allocated ≢ old.rounds = search rules in
    let (steps, after, (there, makes, passed)) = inv.passed in
    let stands = (passed there makes.named (agree_self 0 (old.allocated * b) there)).0 in
    let first : ℕ = old.allocated in
    let rounds : ℕ = old.collected in
    let makes' = subst (λ (n : ℕ). AreReplayCores b n trace there) (sym inv.window) makes in
    let held : List ℕ = text_of (held_lines b c.loop-replay.held) in
    let (here, named, clean, gives) = c.in_ok-step.ensures.step there makes' stands in
    let clean' = subst (λ (n : ℕ). AreClean trace.net here (first_slot b first) (slots_between (setting_of trace b n there) first rounds)) inv.window clean in
    let cores : SlotCores = spliced (first * b) ((rounds - first) * b) here there in
    let published = c.in_ok-step.ensures.allocated in
    record {
      rounds = c.in_ok-step.ensures.rounds ∙ inv.rounds;
      size = c.in_ok-step.ensures.b;
      window = c.in_ok-step.ensures.g ∙ inv.window;
      held = c.in_ok-step.ensures.held;
      passed = (
        suc steps,
        after_step w trace.rounds steps old c.play_step.new.replay after (replay_within stands).rounds inv.window more c.in_ok-step.ensures.collected published,
        (
          cores,
          replay_spliced trace b w first rounds here there c.cores_decide_nothing.ensures c.runs_go_on.ensures.begins c.runs_go_on.ensures.batches c.schedules_go_on.ensures.front c.schedules_go_on.ensures.count
              (replay_within stands).behind (replay_within stands).within makes named clean',
          λ other named' agree.
              let all : ℕ = c.play_step.new.replay.allocated * b in
              let end : first * b + (rounds - first) * b ≡ all = places first rounds b (replay_within stands).behind ∙ ap (λ (n : ℕ). n * b) (sym published) in
              let (stands', (sent, passed', is)) = passed other named' (agree_before (first * b) ((rounds - first) * b) all other here there (omega arith) agree) in
              let (next, lines) = gives other stands' (agree_in (first * b) ((rounds - first) * b) all other here there (omega arith) agree) in (
                next,
                (
                  sent ++ held,
                  c.texts_follow.ensures.after passed' c.in_ok-step.ensures.passed refl,
                  steps_more trace other old b w steps after (replay_within stands).rounds inv.size inv.window
                      ∙ (ap (λ (t : List ℕ). t ++ text_of (next_replay_lines other trace old)) is ∙ ap (λ (ls : List Line). (sent ++ held) ++ text_of ls) (sym lines)),
                ),
              ),
        ),
      );
    }

pub returns-in_err-step-clause-passes : goal.returns-in_err-step-clause-passes
returns-in_err-step-clause-passes g c =
    let trace = c.args.trace.now in
    let b : ℕ = c.args.b in
    let w : ℕ = c.args.replay.now.g in
    let old = c.loop-replay.replay in
    let inv = c.loop-replay.invariant in
    let more : old.allocated ≢ old.rounds = search rules in
    let (steps, after, (there, makes, passed)) = inv.passed in
    let (stands, (sent, passed', is)) = passed there makes.named (agree_self 0 (old.allocated * b) there) in
    let some : 0 < w = subst (λ (n : ℕ). 0 < n) inv.window (replay_within stands).g.0 in
    let setting : Setting = setting_of trace b w there in
    let next : List ℕ = text_of (next_replay_lines there trace old) in
    let rest : List ℕ = steps_after there setting trace steps in (
      there,
      makes,
      (
        never_ok _ _ c.from_residual.result c.from_residual.ensures.1,
        Passes-broken (next ++ rest) passed' c.in_err-step.ensures.stopped c.from_residual.ensures.1
            (steps_stop trace there old b w steps c.every_replay_takes_its_steps.ensures some c.requires.accepted.some_round after (replay_within stands).rounds inv.size inv.window more
            ∙ (append_assoc (text_of (steps_lines there setting trace steps)) next rest ∙ ap (λ (t : List ℕ). t ++ (next ++ rest)) is)),
      ),
    )

pub put_held-requires-clause-b : goal.put_held-requires-clause-b
put_held-requires-clause-b g c =
    let (steps, after, (there, makes, passed)) = c.loop-replay.invariant.passed in
    let stands = (passed there makes.named (agree_self 0 (c.loop-replay.replay.allocated * c.args.b) there)).0 in
    subst (λ (n : ℕ). (0 < n) × (n ≤ 64)) c.loop-replay.invariant.size (replay_within stands).b

pub play_step-requires-clause-stands : goal.play_step-requires-clause-stands
play_step-requires-clause-stands g c κs within =
    let (steps, after, (there, makes, passed)) = c.loop-replay.invariant.passed in
    (there, (passed there makes.named (agree_self 0 (c.loop-replay.replay.allocated * c.args.b) there)).0)

pub loop-replay-smaller : goal.loop-replay-smaller
loop-replay-smaller g c =
    let old = c.loop-replay.replay in
    let new = c.play_step.new.replay in
    let all : ℕ = c.args.trace.now.rounds in
    let (steps, after, (there, makes, passed)) = c.loop-replay.invariant.passed in
    let stands = (passed there makes.named (agree_self 0 (old.allocated * c.args.b) there)).0 in
    let more : old.allocated ≢ old.rounds = search rules in
    step_smaller old.g all old.collected old.allocated new.collected new.allocated (replay_within stands).g.0 (replay_within stands).behind (replay_within stands).within (λ is. more (is ∙ sym (replay_within stands).rounds))
    (c.in_ok-step.ensures.collected ∙ ap (λ (n : ℕ). old.collected + min old.g (n - old.collected)) (replay_within stands).rounds) c.in_ok-step.ensures.allocated

pub returns-clause-rounds : goal.returns-clause-rounds
returns-clause-rounds g c = OnOk-always c.put_held.result c.loop-replay.invariant.rounds

pub returns-clause-b : goal.returns-clause-b
returns-clause-b g c = OnOk-always c.put_held.result c.loop-replay.invariant.size

pub returns-clause-g : goal.returns-clause-g
returns-clause-g g c = OnOk-always c.put_held.result c.loop-replay.invariant.window

pub returns-clause-done : goal.returns-clause-done
returns-clause-done g c =
    let last = c.loop-replay.replay in
    let done : last.allocated ≡ last.rounds = search rules in
    OnOk-always c.put_held.result done

pub returns-clause-passes : goal.returns-clause-passes
returns-clause-passes g c =
    let trace = c.args.trace.now in
    let b : ℕ = c.args.b in
    let w : ℕ = c.args.replay.now.g in
    let last = c.loop-replay.replay in
    let inv = c.loop-replay.invariant in
    let (steps, after, (there, makes, passed)) = inv.passed in
    let (stands, (sent, passed', is)) = passed there makes.named (agree_self 0 (last.allocated * b) there) in
    let done : last.allocated ≡ last.rounds = search rules in
    let some : 0 < w = subst (λ (n : ℕ). 0 < n) inv.window (replay_within stands).g.0 in
    let setting : Setting = setting_of trace b w there in
    let all : steps ≡ steps_of setting trace = all_steps w trace.rounds steps last c.every_replay_takes_its_steps.ensures some c.requires.accepted.some_round after (done ∙ (replay_within stands).rounds) in
    (there, makes, (OnOk-always c.put_held.result stands, c.texts_follow.ensures.after passed' c.put_held.ensures (sym (ap (λ (n : ℕ). text_of (steps_lines there setting trace n)) all) ∙ is)))
