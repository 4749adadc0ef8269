-- `go_on` reads the `next` of the first node of the rest, which is the last of these then. Assumes `Logic`.
use mathlib.Core.Path.{◌≡◌, refl, sym, ap, subst, ◌∙◌}
use Prim.Native.Nat.{ℕ, ◌<◌}
use native.Mathlib.Omega.{arith}
use mathlib.Core.List.{List, [], ◌∷◌, ◌++◌}
use lib.ListN.{length, length-append, take, drop as taken_off}
use seplogic.Ra.Ura.{Ura}
use mir.Syntax.{Fn, named}
use mir.MapTy.{inst_fn}
use mir.Val.{Val, vptr, vunit}
use base.Logic.{SProp, ent}
use base.Fml.{Lft, GName, Share, ftrue, flft, fobs, fbor}
use prog.Wp.{Env, Calls, Loops, WpFn, Tables}
use types.Logic.{Logic}
use contract.Monad.{fact}
use contract.Running.{tables, tables_of}
use sound.WpLaws.{WpFn-mono}
use types.Kit.{Item, ⋆, ‵, ◌⊛◌, at_ret, ◌$◌, ◌∵◌, !, qed, by, move, keep, use2, split3, join, rewrite, fsplit, fsplit3, fjoin, fjoin3, feq_i, feq_l, suffices, frame, done}
use types.Part.{whole, sub, look_in, store_in}
use types.Run.{stop, fld, load, unit_lit, of_opd, assigns, first, blocks, exec, returns, enter}
use types.ByLocal.{alloc_all, pass_all, free_all, look_at, get, through, sets, sets_last, is, env}
use types.SemTy.{Body as Borrowed}
use denote.Exit.{yes}
use denote.RattleType.{owns}
use denote.Memory.{mem}
use denote.RawPtr.{Ptr, block_ptr, ptr_val}
use denote.Ref.{MutBor, MutRef}
use denote.Builtin.{RefMutOf, unit}
use denote.Signature.{plain}
use denote.Steps.{nothing}
use denote.Triple.Carry.{spared}
use denote.Triple.Clauses.{Clauses, Ended, closing}
use denote.Triple.Entry.{on_entry}
use denote.Triple.Spec.{Meets, triple_of}
use denote.Triple.Table.{entered, run_framed}
use denote.Triple.Walked.{says, needs, Stays, stay_ref, walk_of, ends_at, Goes-ref, walk_Meets}
use Rattle.std_alloc.proofs.VecSteps.Shapes.{after}
use Rattle.std_alloc.proofs.RcSteps.{Ptr-Good}
use Rattle.item_chain.specs.Links.{first_of, last_of}
use Rattle.item_chain.proofs.Links.{had, first_of-append, last_of-append, last_of-rest, uncons}
use Rattle.item_chain.proofs.Memory.{Elem, args, X, D, Nr, Held, One, one_opens, one_closes, nodes_opens, nodes_closes, run_in}
use Rattle.item_chain.specs.contracts.nodes.Nodes.go_on.Key.{name as #self}
use Rattle.item_chain.proofs.nodes.Nodes.go_on.Statement as stated
use Rattle.item_chain.proofs.nodes.Nodes.go_on.Code as code

module _ (E : Elem) where
  abbrev function : Fn
  function = inst_fn (args E) code.function

  abbrev ended : Ended
  ended = record { signature = record { lifetimes = 2; outlives = []; params = RefMutOf (0 ∷ []) tt (plain (λ _. Nr E)) (λ _. tt) ∷ RefMutOf (1 ∷ []) tt (plain (λ _. Nr E)) (λ _. tt) ∷ []; result = plain (λ _. unit) }; kept = (yes, (yes, tt)) }

  abbrev stayed : Stays ended.signature.params ended.kept
  stayed = (stay_ref (0 ∷ []) tt (plain (λ _. Nr E)), (stay_ref (1 ∷ []) tt (plain (λ _. Nr E)), tt))

  abbrev Asks : D E → D E → Type 0
  Asks d c = (0 < length c.items) × (d.end ≡ c.head)

  abbrev Gives : D E → D E → D E → D E → Type 0
  Gives d c new rest = (new.items ≡ d.items ++ take 1 c.items) × (rest.items ≡ taken_off 1 c.items) × (new.end ≡ rest.head)

  abbrev spec : {M : Type 1} {𝓤 : Ura M} (𝓛 : Logic 𝓤) → Clauses 𝓤 ended
  spec {𝓤 = 𝓤} 𝓛 κs a = record { ghost = Unit {0}; requires = λ _. fact 𝓤 (Asks a.0.now a.1.0.now); ensures = λ _ r w. fact 𝓤 (Gives a.0.now a.1.0.now w.0.now w.1.0.now) }

module _ (E : Elem) {M : Type 1} {𝓤 : Ura M} (𝓛 : Logic 𝓤) (C : Calls 𝓤 𝓛.H) (Λ : Loops 𝓤 𝓛.H) (κ μ : Lft) (q s : Share) (rb ro sb so : ℕ) (γ δ : GName) (d c : D E) (ps us : List Val) where
  open 𝓛 use {H}

  abbrev self : MutBor (D E)
  self = record { ref_ptr = (rb, ro); ghost_name = γ; now = d }

  abbrev other : MutBor (D E)
  other = record { ref_ptr = (sb, so); ghost_name = δ; now = c }

  abbrev bound : (walk_of 𝓛 (ended E) (stayed E) (spec E 𝓛)).Ghost
  bound = (((κ, (μ, tt)), (q, (s, tt)), tt, (self, (other, tt)), (ps, (us, tt))), tt)

  abbrev Post : Val → SProp 𝓤
  Post = (walk_of 𝓛 (ended E) (stayed E) (spec E 𝓛)).post bound

  abbrev Had : D E → D E → List (Item 𝓤)
  Had u v = ‵ (fobs γ ((Nr E).coded.code u)) ∷ ‵ (fbor κ (Borrowed (mem (Nr E)) rb ro γ)) ∷ ‵ (flft κ q)
      ∷ ‵ (fobs δ ((Nr E).coded.code v)) ∷ ‵ (fbor μ (Borrowed (mem (Nr E)) sb so δ)) ∷ ‵ (flft μ s) ∷ []

  exits : ps ≡ vptr rb ro ∷ [] → us ≡ vptr sb so ∷ [] → (new rest : D E) → Gives E d c new rest → ent 𝓤 (⋆ 𝓛 (Had new rest)) (Post vunit)
  exits e f new rest told =
      qed 𝓛 (Had new rest) ∵ suffices ! _ (ends_at 𝓛 (ended E) (stayed E) (spec E 𝓛) bound vunit tt (new, (rest, tt)) (tt, (tt, tt))) $ says ! told $
      nothing ! $ move ! (6 ∷ 0 ∷ []) $ join ! $ move ! (3 ∷ 0 ∷ []) $ join ! $ frame ! $ feq_i ! (List Val) ps (vptr rb ro ∷ []) e $ fjoin3 ! $
      move ! (1 ∷ 2 ∷ []) $ feq_i ! (List Val) us (vptr sb so ∷ []) f $ fjoin3 ! $ nothing ! $ move ! (1 ∷ 0 ∷ []) $ fjoin ! $ move ! (1 ∷ 0 ∷ []) $ fjoin ! $
      feq_i ! (List Val) (vunit ∷ []) (vunit ∷ []) refl $ move ! (1 ∷ 0 ∷ []) $ done !

  walk : ps ≡ vptr rb ro ∷ [] → us ≡ vptr sb so ∷ [] → Asks E d c → ent 𝓤 (⋆ 𝓛 (Had d c)) (WpFn 𝓤 H C Λ (function E) (vptr rb ro ∷ vptr sb so ∷ []) Post)
  walk passed handed asked =
      let long = d.long in
      let fine = c.long in
      let ns = uncons c.places (omega arith) in
      let xs = uncons c.items asked.0 in
      let p : Ptr = ns.0 in
      let x = xs.0 in
      let far = ap length ns.2 in
      let many = ap length xs.2 in
      let begins : c.head ≡ p = had _ _ c.begins ∙ ap (first_of c.end) ns.2 in
      let n : Ptr = first_of c.end ns.1 in
      let rest : D E = record {
        head = n;
        tail = c.tail;
        items = xs.1;
        places = ns.1;
        end = c.end;
        long = omega arith;
        begins = ∣ refl ∣₁;
        ends = ∣ last_of-rest c.tail p ns.1 (had _ _ c.ends ∙ ap (last_of c.tail) ns.2) ∣₁;
      } in
      qed 𝓛 (Had d c) ∵ enter ! C Λ (function E) (vptr rb ro ∷ vptr sb so ∷ []) _ $ alloc_all ! (λ l. pass_all ! refl ((tt, tt), ((tt, tt), tt)) $
      let En : Env 𝓤 H = env (function E).locals l in
      nodes_opens E ! tt d rb ro $ move ! (5 ∷ 6 ∷ 7 ∷ []) $ nodes_opens E ! tt c sb so $
      rewrite ! 0 (λ (js : List Ptr). ‵ (Held E c.end js c.items)) ns.2 refl $ rewrite ! 0 (λ (ys : List (X E)). ‵ (Held E c.end (p ∷ ns.1) ys)) xs.2 refl $ fsplit ! $
      one_opens E ! p n x (λ b o v e good.
      let new : D E = record {
        head = d.head;
        tail = block_ptr b o;
        items = d.items ++ x ∷ [];
        places = d.places ++ p ∷ [];
        end = n;
        long = omega (arith, length-append d.places (p ∷ []), length-append d.items (x ∷ []));
        begins = ∣ had _ _ d.begins ∙ ap (λ (r : Ptr). first_of r d.places) (asked.1 ∙ begins) ∙ sym (first_of-append n d.places (p ∷ [])) ∣₁;
        ends = ∣ sym e ∙ sym (last_of-append (block_ptr b o) d.places p []) ∣₁;
      } in
      -- [the node, in three; the nodes behind it; the rest's words, borrow, obs and auth; these nodes; their words, borrow, obs and auth]
      sets ! (is ! (of_opd ! (load ! (through ! refl (fld ! refl (stop !))) (look_in ! 4 (sub ! 0 refl (whole !))))) (ap ptr_val (begins ∙ e))) refl (tt, tt) $
      assigns ! (of_opd ! (get ! refl)) (through ! refl (fld ! refl (stop !))) (store_in ! 9 (sub ! 1 refl (whole !)) (tt, tt)) $
      first ! $ blocks ! $ sets_last ! (of_opd ! (load ! (through ! refl (fld ! refl (stop !))) (look_in ! 0 (sub ! 0 refl (whole !))))) refl (Ptr-Good n) $ exec ! C Λ En (after 3 (function E).body) (at_ret En Post) $
      assigns ! (of_opd ! (get ! refl)) (through ! refl (fld ! refl (stop !))) (store_in ! 4 (sub ! 0 refl (whole !)) (Ptr-Good n)) $
      sets ! (of_opd ! (unit_lit !)) refl (tt, tt) $
      one_closes E ! b o n x v $ move ! (1 ∷ 2 ∷ 3 ∷ 4 ∷ 5 ∷ []) $ nodes_closes E ! tt rest sb so $
      move ! (3 ∷ []) $ rewrite ! 0 (λ (r : Ptr). ‵ (One E r n x)) (sym e) refl $ nothing ! $ move ! (1 ∷ 0 ∷ []) $ fjoin ! $
      move ! (4 ∷ 0 ∷ []) $ rewrite ! 0 (λ (r : Ptr). ‵ (Held E r d.places d.items)) (asked.1 ∙ begins) refl $
      use2 𝓛 (‵ (Held E n (d.places ++ p ∷ []) (d.items ++ x ∷ []))) (run_in E 𝓛 n d.places (p ∷ []) d.items (x ∷ []) d.long) $
      move ! (0 ∷ 4 ∷ 5 ∷ 6 ∷ 7 ∷ []) $ nodes_closes E ! tt new rb ro $
      returns ! (look_at ! 0 refl) $ free_all ! refl $ keep ! (0 ∷ 1 ∷ 2 ∷ 3 ∷ 4 ∷ 5 ∷ []) $
      by ! (exits passed handed new rest (sym (ap (λ (ys : List (X E)). d.items ++ take 1 ys) xs.2), sym (ap (taken_off 1) xs.2), refl))))

  entry : Asks E d c → ent 𝓤 (on_entry 𝓛 (ended E).signature (κ, (μ, tt)) (q, (s, tt)) (self, (other, tt)) (ps, (us, tt))) (WpFn 𝓤 H C Λ (function E) (ps ++ (us ++ [])) Post)
  entry asked =
      qed 𝓛 ((‵ (flft κ q) ⊛ ‵ (flft μ s) ⊛ ‵ ftrue) ∷ ‵ (owns (MutRef (named 0) κ (Nr E) ∷ MutRef (named 1) μ (Nr E) ∷ []) (self, (other, tt)) (ps, (us, tt))) ∷ []) ∵ split3 ! $ move ! (3 ∷ []) $ fsplit3 ! $ fsplit3 ! $ feq_l ! (λ e.
      move ! (2 ∷ []) $ fsplit3 ! $ feq_l ! (λ f. keep ! (2 ∷ 3 ∷ 5 ∷ 0 ∷ 1 ∷ 6 ∷ []) $
      by ! (subst (λ (ws : List Val × List Val). ent 𝓤 (⋆ 𝓛 (Had d c)) (WpFn 𝓤 H C Λ (function E) (ws.0 ++ (ws.1 ++ [])) Post)) (λ j. (sym e j, sym f j)) (walk e f asked))))

meets : (E : Elem) {M : Type 1} {𝓤 : Ura M} (𝓛 : Logic 𝓤) (𝓣 : Tables 𝓤 𝓛.H)
    → Meets 𝓛 (ended E).signature (WpFn 𝓤 𝓛.H 𝓣.C 𝓣.Λ (function E)) (closing 𝓛 (ended E) (spec E 𝓛))
meets E {𝓤 = 𝓤} 𝓛 𝓣 =
    walk_Meets 𝓛 (ended E) (stayed E) (Goes-ref 𝓛 2 0 tt (plain (λ _. Nr E)), (Goes-ref 𝓛 2 1 tt (plain (λ _. Nr E)), tt)) (spec E 𝓛) (WpFn 𝓤 𝓛.H 𝓣.C 𝓣.Λ (function E)) (WpFn-mono 𝓤 𝓛.H 𝓛.laws 𝓣 (function E))
    (λ z. let a = z.0.3.0 in let c = z.0.3.1.0 in needs 𝓤 (Asks E a.now c.now) _
    (entry E 𝓛 𝓣.C 𝓣.Λ z.0.0.0 z.0.0.1.0 z.0.1.0 z.0.1.1.0 a.ref_ptr.0 a.ref_ptr.1 c.ref_ptr.0 c.ref_ptr.1 a.ghost_name c.ghost_name a.now c.now z.0.4.0 z.0.4.1.0))

pub go_on_spec : {M : Type 1} → stated.statement M
unfolding tables_of
go_on_spec 𝓤 𝓛 𝓜 𝓡 wired Y L y =
    let E : Elem = record { row = Y; laws = L } in
    let 𝓣 : Tables 𝓤 𝓛.H = tables_of 𝓤 𝓛.H 𝓜 (tables 𝓤 𝓛.H 𝓜 𝓡 𝓡.env) in
    let k = #self (args E) in
    spared 𝓛 (ended E).signature (𝓡.run (𝓡.env k)) (run_framed 𝓤 𝓛.H 𝓜 𝓡 (𝓡.env k)) 1 (Y.lives, tt) (closing 𝓛 (ended E) (spec E 𝓛))
    (entered 𝓤 𝓛.H (triple_of 𝓛 (ended E).signature (closing 𝓛 (ended E) (spec E 𝓛))) 𝓣.C 𝓣.Λ k (function E) (code.unfolded 𝓤 𝓛.H 𝓜 𝓡 wired (Y, tt)) (meets E 𝓛 𝓣))
    ((y.0.0, y.0.1, tt, y.0.3, y.0.4), y.1)
