-- What an agent is asked for in a round stays within the limit of its flows.
use Rattle.std.proofs.Common.{◌≡◌, ◌≢◌, ◌<◌, ◌≤◌, ◌+◌, ◌==◌, ℕ, List, [], ◌∷◌, cond, Bool, true, false, All, refl, ap, arith}
use Rattle.std.proofs.lemmas.Bool.{eq-eqb}
use Rattle.std.proofs.lemmas.List.Elements.{All-head, All-tail}
use Rattle.std.proofs.lemmas.List.Sums.{sum_by-cons}
use Rattle.endpoint_history.specs.Agent.{AgentHistory, Boots, Asks, asked}
use Rattle.trace_text.specs.Valid.{amount_for}
use Rattle.lane_rounds.specs.State.{MayAsk, with_each}

pub boots-forget : (boots : List ℕ) (calls : AgentHistory) (dst : ℕ) → asked (with_each Boots boots calls) dst ≤ asked calls dst
boots-forget [] calls dst = omega arith
boots-forget (version ∷ boots) calls dst = let rest = boots-forget boots (Boots version ∷ calls) dst in omega arith

either : (c : Bool) (n more rest most : ℕ) → n + (cond c more 0 + rest) ≤ most → cond c (n + more) n + rest ≤ most
either true n more rest most within = omega arith
either false n more rest most within = omega arith

-- one ask after the other, where what was asked for and what is still to come is within
pub may-ask : (me endpoints : ℕ) (calls : AgentHistory) (asks : List (ℕ × ℕ)) → All (λ (a : ℕ × ℕ). a.0 ≢ me) asks → All (λ (a : ℕ × ℕ). a.0 < endpoints) asks →
    ((dst : ℕ) → asked calls dst + amount_for dst asks ≤ 100000000) → MayAsk me endpoints calls asks
may-ask me endpoints calls [] apart below within = tt
may-ask me endpoints calls (a ∷ asks) apart below within =
    let push : (dst : ℕ) → amount_for dst (a ∷ asks) ≡ cond (a.0 == dst) a.1 0 + amount_for dst asks = λ dst. sum_by-cons (λ (x : ℕ × ℕ). cond (x.0 == dst) x.1 0) a asks in
    let own : cond {A = ℕ} (a.0 == a.0) a.1 0 ≡ a.1 = ap (λ (c : Bool). cond {A = ℕ} c a.1 0) (eq-eqb a.0 a.0 refl) in (
      All-head (λ (x : ℕ × ℕ). x.0 ≢ me) a asks apart,
      All-head (λ (x : ℕ × ℕ). x.0 < endpoints) a asks below,
      omega (arith, within a.0, push a.0, own),
      may-ask me endpoints (Asks a.0 a.1 ∷ calls) asks (All-tail (λ (x : ℕ × ℕ). x.0 ≢ me) a asks apart) (All-tail (λ (x : ℕ × ℕ). x.0 < endpoints) a asks below)
          (λ dst. either (a.0 == dst) (asked calls dst) a.1 (amount_for dst asks) 100000000 (omega (arith, within dst, push dst))),
    )
