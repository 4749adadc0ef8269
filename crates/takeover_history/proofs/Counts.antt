-- What holds of a flow's counts, as numbers: a generation's totals, what its batches have of them, and what was sent.
use Rattle.std.proofs.Common.{◌≡◌, ◌<◌, ◌≤◌, ◌+◌, ◌-◌, ℕ, refl, sym, ap, ◌∙◌, subst, inl, inr, arith}
use Rattle.std.proofs.lemmas.Bool.{cases_eq}

-- the endpoint's generation, its base, what is asked for and sent; and by generation what is allocated, needed, published, recorded and not heard yet
pub record Counts (g base asked sends : ℕ) (alloc need pub' rec unheard : ℕ → ℕ) : Type 0 where
  pub left : (k : ℕ) → alloc k + need k ≤ pub' k
  pub grows : (k : ℕ) → pub' k ≤ rec k
  pub later : (k : ℕ) → g < k → rec k ≡ 0
  pub within : (k : ℕ) → rec k ≤ asked
  pub now : base + rec g ≤ asked
  pub part : (k : ℕ) → unheard k ≤ alloc k
  pub sent : sends + unheard g ≤ base + alloc g

module _ (g base asked sends : ℕ) (alloc need pub' rec unheard : ℕ → ℕ) (c : Counts g base asked sends alloc need pub' rec unheard) where
  pub sends_are_asked : sends ≤ asked
  sends_are_asked = omega (arith, c.sent, c.left g, c.grows g, c.now)

  pub at : (g' base' asked' sends' : ℕ) (rec' unheard' : ℕ → ℕ) → g' ≡ g → base' ≡ base → asked ≤ asked' → sends' ≡ sends
      → ((k : ℕ) → rec' k ≡ rec k) → ((k : ℕ) → unheard' k ≤ unheard k) → Counts g' base' asked' sends' alloc need pub' rec' unheard'
  at g' base' asked' sends' rec' unheard' gs bases more same recs fewer = record {
    left = c.left;
    grows = λ k. omega (arith, c.grows k, recs k);
    later = λ k above. recs k ∙ c.later k (omega arith);
    within = λ k. omega (arith, c.within k, recs k);
    now = let r = ap rec gs in omega (arith, c.now, r, recs g');
    part = λ k. omega (arith, c.part k, fewer k);
    sent = let r = ap unheard gs in let a = ap alloc gs in omega (arith, c.sent, r, a, fewer g');
  }

  pub tells_new : (k' : ℕ) (rec' : ℕ → ℕ) → g < k' → rec' k' ≡ asked - sends → ((k : ℕ) → (k' ≡ k → ⊥) → rec' k ≡ rec k) → Counts k' sends asked sends alloc need pub' rec' unheard
  tells_new k' rec' above is others = record {
    left = c.left;
    grows = λ k. elim (cases_eq k' k) [
      | inl here ↦
          let p : pub' k' ≤ 0 = omega (arith, c.grows k', c.later k' above) in
          subst (λ (n : ℕ). pub' n ≤ rec' n) here (omega arith)
      | inr there ↦ omega (arith, c.grows k, others k there)
    ];
    later = λ k more. others k (λ same. absurd (omega arith)) ∙ c.later k (omega arith);
    within = λ k. elim (cases_eq k' k) [
      | inl here ↦ subst (λ (n : ℕ). rec' n ≤ asked) here (omega arith)
      | inr there ↦ omega (arith, c.within k, others k there)
    ];
    now = omega (arith, is, sends_are_asked);
    part = c.part;
    sent = omega (arith, c.part k');
  }

  pub tells_again : (rec' : ℕ → ℕ) → rec' g ≡ asked - base → ((k : ℕ) → (g ≡ k → ⊥) → rec' k ≡ rec k) → Counts g base asked sends alloc need pub' rec' unheard
  tells_again rec' is others = record {
    left = c.left;
    grows = λ k. elim (cases_eq g k) [
      | inl here ↦ subst (λ (n : ℕ). pub' n ≤ rec' n) here (omega (arith, c.grows g, c.now, is))
      | inr there ↦ omega (arith, c.grows k, others k there)
    ];
    later = λ k more. others k (λ same. absurd (omega arith)) ∙ c.later k more;
    within = λ k. elim (cases_eq g k) [
      | inl here ↦ subst (λ (n : ℕ). rec' n ≤ asked) here (omega arith)
      | inr there ↦ omega (arith, c.within k, others k there)
    ];
    now = omega (arith, is, c.now);
    part = c.part;
    sent = c.sent;
  }

  pub publishes : (k' slots : ℕ) (alloc' need' pub'' unheard' : ℕ → ℕ)
      → alloc' k' ≡ slots + alloc k' → ((k : ℕ) → (k' ≡ k → ⊥) → alloc' k ≡ alloc k)
      → need' k' + slots ≤ need k' + (rec k' - pub' k') → ((k : ℕ) → (k' ≡ k → ⊥) → need' k ≡ need k)
      → pub'' k' ≡ rec k' → ((k : ℕ) → (k' ≡ k → ⊥) → pub'' k ≡ pub' k)
      → unheard' k' ≤ slots + unheard k' → ((k : ℕ) → (k' ≡ k → ⊥) → unheard' k ≤ unheard k)
      → Counts g base asked sends alloc' need' pub'' rec unheard'
  publishes k' slots alloc' need' pub'' unheard' alloc_is allocs need_is needs pub_is pubs unheard_is unheards = record {
    left = λ k. elim (cases_eq k' k) [
      | inl here ↦ subst (λ (n : ℕ). alloc' n + need' n ≤ pub'' n) here (omega (arith, c.left k', c.grows k'))
      | inr there ↦ omega (arith, c.left k, allocs k there, needs k there, pubs k there)
    ];
    grows = λ k. elim (cases_eq k' k) [
      | inl here ↦ subst (λ (n : ℕ). pub'' n ≤ rec n) here (omega arith)
      | inr there ↦ omega (arith, c.grows k, pubs k there)
    ];
    later = c.later;
    within = c.within;
    now = c.now;
    part = λ k. elim (cases_eq k' k) [
      | inl here ↦ subst (λ (n : ℕ). unheard' n ≤ alloc' n) here (omega (arith, c.part k'))
      | inr there ↦ omega (arith, c.part k, allocs k there, unheards k there)
    ];
    sent = elim (cases_eq k' g) [
      | inl here ↦ subst (λ (n : ℕ). sends + unheard' n ≤ base + alloc' n) here (let s = subst (λ (n : ℕ). sends + unheard n ≤ base + alloc n) (sym here) c.sent in omega arith)
      | inr there ↦ omega (arith, c.sent, allocs g there, unheards g there)
    ];
  }

  pub hears_new : (k' : ℕ) (unheard' : ℕ → ℕ) → g < k' → ((k : ℕ) → unheard' k ≤ unheard k) → Counts k' sends asked sends alloc need pub' rec unheard'
  hears_new k' unheard' above fewer = record {
    left = c.left;
    grows = c.grows;
    later = λ k more. c.later k (omega arith);
    within = c.within;
    now = omega (arith, c.later k' above, sends_are_asked);
    part = λ k. omega (arith, c.part k, fewer k);
    sent = omega (arith, c.part k', fewer k');
  }

  pub hears_own : (slots sends' : ℕ) (unheard' : ℕ → ℕ) → sends' ≤ sends + slots → unheard' g + slots ≤ unheard g → ((k : ℕ) → unheard' k ≤ unheard k) → Counts g base asked sends' alloc need pub' rec unheard'
  hears_own slots sends' unheard' more less fewer = record {
    left = c.left;
    grows = c.grows;
    later = c.later;
    within = c.within;
    now = c.now;
    part = λ k. omega (arith, c.part k, fewer k);
    sent = omega (arith, c.sent);
  }
