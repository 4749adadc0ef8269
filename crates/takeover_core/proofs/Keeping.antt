-- What the keeper keeps, after a grant.
use Rattle.std.proofs.Common.{◌≡◌, ◌≤◌, ◌+◌, ◌==◌, ℕ, zero, suc, List, [], ◌∷◌, ◌++◌, length, cond, Option, Some, None, slice_get, inl, inr, refl, sym, ap, ◌∙◌, subst, arith, length-append}
use Rattle.std.proofs.Math.Nat.{mul-suc}
use Rattle.std.proofs.lemmas.Bool.{cases_eq, cond-true, cond-false, cond_both, eq-eqb, ne_eqb}
use Rattle.std.proofs.lemmas.Option.{slice_get_past}
use Rattle.takeover_history.specs.declared.lease.Holder.{Holder}
use Rattle.takeover_history.specs.declared.lease.Lease.{Lease}
use Rattle.takeover_history.specs.Events.{PairSetting, Granted, Log}
use Rattle.takeover_history.specs.Leases.{sent_messages, request_at, grant_at, leases, same_holder, changes, lease_for}
use Rattle.takeover_core.specs.declared.keeper.Keeper.{Keeper}
use Rattle.takeover_core.specs.declared.keeper.Message.{Message}
use Rattle.takeover_core.specs.declared.keeper.Message.TheVariants as message
use Rattle.takeover_core.specs.Messages.{message_at, request_in, grant_in, is_holder}
use Rattle.takeover_core.specs.Standing.{IsKeeper}

pushed-last : (xs : List Message) (x : Message) → slice_get (xs ++ x ∷ []) (length xs) ≡ Some x
pushed-last [] x = refl
pushed-last (y ∷ ys) x = pushed-last ys x

pushed-other : (xs : List Message) (x : Message) (m : ℕ) → (length xs ≡ m → ⊥) → slice_get (xs ++ x ∷ []) m ≡ slice_get xs m
pushed-other [] x zero other = absurd (other refl)
pushed-other [] x (suc m) other = refl
pushed-other (y ∷ ys) x zero other = refl
pushed-other (y ∷ ys) x (suc m) other = pushed-other ys x m (λ e. other (ap suc e))

-- the lease that the keeper grants
pub lease-is : (setting : PairSetting) (keeper : Keeper) (log : Log) (holder : Holder) (lease : Lease)
    → IsKeeper setting.span keeper (sent_messages log) (request_at log) (grant_at log) (leases log)
    → lease ≡ record { holder = holder; generation = cond (is_holder keeper.holder holder) 0 1 + keeper.generation; first = keeper.next }
    → lease ≡ lease_for setting log holder
lease-is setting keeper log holder lease k is =
    is ∙ (ap (λ (n : ℕ). record { holder = holder; generation = n; first = keeper.next }) (sym (k.generation holder))
    ∙ ap (λ (n : ℕ). record { holder = holder; generation = changes holder (leases log); first = n }) k.next)

pub granted : (span : ℕ) (keeper now : Keeper) (log : Log) (lease : Lease) (holder : Holder)
    → IsKeeper span keeper (sent_messages log) (request_at log) (grant_at log) (leases log)
    → lease ≡ record { holder = holder; generation = cond (is_holder keeper.holder holder) 0 1 + keeper.generation; first = keeper.next }
    → now.messages.items ≡ keeper.messages.items ++ message.Grant lease ∷ [] → now.span ≡ keeper.span → now.holder ≡ Some holder → now.generation ≡ cond (is_holder keeper.holder holder) 0 1 + keeper.generation → now.next ≡ keeper.next + keeper.span
    → IsKeeper span now (sent_messages log + 1) (request_at (Granted lease ∷ log)) (grant_at (Granted lease ∷ log)) (lease ∷ leases log)
granted span keeper now log lease holder k is messages spans holders generations nexts =
    let held : holder ≡ lease.holder = sym (ap (λ (l : Lease). l.holder) is) in
    let old : List Message = keeper.messages.items in
    let read : (m : ℕ) → message_at now.messages.items m ≡ slice_get (old ++ message.Grant lease ∷ []) m = λ m. ap (λ (xs : List Message). slice_get xs m) messages in
    record {
      span_is = spans ∙ k.span_is;
      next = omega (arith, nexts, k.next, k.span_is, mul-suc span (length (leases log)));
      generation = λ next.
          let changed : changes lease.holder (leases log) ≡ now.generation = ap (λ (h : Holder). changes h (leases log)) (sym held) ∙ (k.generation holder ∙ sym generations) in
          ap (λ (n : ℕ). cond (same_holder next lease.holder) 0 1 + n) changed
          ∙ (ap (λ (h : Holder). cond (same_holder next h) 0 1 + now.generation) (sym held) ∙ ap (λ (o : Option Holder). cond (is_holder o next) 0 1 + now.generation) (sym holders));
      bounded = omega (
        arith,
        generations,
        cond_both (is_holder keeper.holder holder) 0 1 (λ (n : ℕ). n + keeper.generation ≤ suc (length (leases log))) (λ here. omega (arith, k.bounded)) (λ other. omega (arith, k.bounded)),
      );
      count = ap (λ (xs : List Message). length xs) messages ∙ (length-append old (message.Grant lease ∷ []) ∙ ap (λ (n : ℕ). n + 1) k.count);
      asks = λ m. k.asks m ∙ (elim (cases_eq (length old) m) [
        | inl here ↦
            ap request_in (subst (λ (n : ℕ). slice_get old n ≡ None) here (slice_get_past old (length old) (omega arith)))
            ∙ sym (ap request_in (subst (λ (n : ℕ). slice_get (old ++ message.Grant lease ∷ []) n ≡ Some (message.Grant lease)) here (pushed-last old (message.Grant lease))))
        | inr other ↦ ap request_in (sym (pushed-other old (message.Grant lease) m other))
      ] ∙ ap request_in (sym (read m)));
      answers = λ m. elim (cases_eq (length old) m) [
        | inl here ↦
            cond-true (sent_messages log == m) (Some lease) (grant_at log m) (eq-eqb (sent_messages log) m (sym k.count ∙ here))
            ∙ sym (ap grant_in (subst (λ (n : ℕ). slice_get (old ++ message.Grant lease ∷ []) n ≡ Some (message.Grant lease)) here (pushed-last old (message.Grant lease))))
        | inr other ↦
            cond-false (sent_messages log == m) (Some lease) (grant_at log m) (ne_eqb (sent_messages log) m (λ e. other (k.count ∙ e)))
            ∙ (k.answers m ∙ ap grant_in (sym (pushed-other old (message.Grant lease) m other)))
      ] ∙ ap grant_in (sym (read m));
    }
