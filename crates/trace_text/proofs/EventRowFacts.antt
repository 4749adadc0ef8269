-- The events of rows, where one row more stands at their end.
use Rattle.std.proofs.Common.{◌≡◌, ◌≢◌, ℕ, suc, ◌+◌, ◌*◌, ◌<◌, ◌≤◌, max, List, [], ◌∷◌, ◌++◌, length, get_or, set, map, take, drop, Bool, true, false, cond, All, Option, Some, None, refl, sym, ap, ◌∙◌, arith, append-nil, length-drop}
use Rattle.std.specs.Prelude.{◌==◌, ◌&&◌, ◌||◌, filter, is_some, slice_get}
use Rattle.std.specs.List.{list_any, filter_map, cons_option}
use Rattle.std.proofs.Math.Seq.{drop-append_seam}
use Rattle.std.proofs.lemmas.Bool.Decides.{nat_tests}
use Rattle.std.proofs.lemmas.List.{map-append, take_all, take-append-le, drop-append-le, get_or-set_same, get_or-set_other}
use Rattle.std.proofs.lemmas.List.Elements.{filter-append, filter_map-append}
use Rattle.loss_world.specs.declared.fate.Fate.{Fate}
use Rattle.trace_text.specs.Rows.{Row, Net, Ask, Meets, Raw, Put, End}
use Rattle.trace_text.specs.Rows as row
use Rattle.trace_text.specs.Earlier.{is_same_way, fate_in, boot_in, packet_in, fated_by, latest_fate, greatest_round, named_round}
use Rattle.trace_text.specs.Trace.{events_of}
use Rattle.trace_text.specs.Events.{AreEventsOf, IsWithin, events_kept, is_fate_of, is_boot_of, is_packet_of, packet_of, way_number, packet_start, packet_from}
use Rattle.trace_text.specs.declared.events.GivenFate.{GivenFate}
use Rattle.trace_text.specs.declared.events.Boot.{Boot}
use Rattle.trace_text.specs.declared.packets.KeptPacket.{KeptPacket}
use mathlib.Core.Path.{fun_ext}

-- what rows tell, where the last tells nothing, and where it tells what is kept of it
pub told-same : {Y : Type 0} (h : Row → Option Y) (ys : List Y) (before : List Row) (row : Row) → ys ≡ filter_map h before → h row ≡ None → ys ≡ filter_map h (before ++ row ∷ [])
told-same h ys before row is none = is ∙ sym (filter_map-append h before (row ∷ []) ∙ ap (λ o. filter_map h before ++ cons_option o []) none ∙ append-nil (filter_map h before))

pub told-more : {X Y : Type 0} (f : X → Y) (p : X → Bool) (h : Row → Option Y) (xs : List X) (x : X) (before : List Row) (row : Row)
    → map f (filter p xs) ≡ filter_map h before → h row ≡ cond (p x) (Some (f x)) None → map f (filter p (xs ++ x ∷ [])) ≡ filter_map h (before ++ row ∷ [])
told-more f p h xs x before row is told =
    ap (map f) (filter-append p xs (x ∷ [])) ∙ map-append f (filter p xs) (filter p (x ∷ [])) ∙ ap (λ l. l ++ map f (filter p (x ∷ []))) is ∙ ap (λ l. filter_map h before ++ l) (by (p x))
    ∙ sym (filter_map-append h before (row ∷ []) ∙ ap (λ o. filter_map h before ++ cons_option o []) told)
  where
    by : (b : Bool) → map f (cond b (x ∷ []) []) ≡ cons_option (cond b (Some (f x)) None) []
    by true = refl
    by false = refl

-- a row of asks, of a net or of an end tells no event
pub no_event : (before : List Row) (row : Row) (fates : List GivenFate) (boots : List Boot) (raws : List KeptPacket) (bytes : List ℕ) → ((round endpoint : ℕ) (up : Bool) → fate_in round endpoint up row ≡ None)
    → ((round endpoint : ℕ) → boot_in round endpoint row ≡ None) → ((round : ℕ) → packet_in round row ≡ None) → AreEventsOf before fates boots raws bytes → AreEventsOf (before ++ row ∷ []) fates boots raws bytes
no_event before row fates boots raws bytes none none2 none3 are = record {
  each_fate = λ round endpoint up. told-same (fate_in round endpoint up) _ before row (are.each_fate round endpoint up) (none round endpoint up);
  each_boot = λ round endpoint. told-same (boot_in round endpoint) _ before row (are.each_boot round endpoint) (none2 round endpoint);
  each_raw = λ round. told-same (packet_in round) _ before row (are.each_raw round) (none3 round);
}

pub fate-event : (before : List Row) (given : GivenFate) (fates : List GivenFate) (boots : List Boot) (raws : List KeptPacket) (bytes : List ℕ) → AreEventsOf before fates boots raws bytes
    → AreEventsOf (before ++ Meets given.round given.endpoint given.up given.fate ∷ []) (fates ++ given ∷ []) boots raws bytes
fate-event before given fates boots raws bytes are =
    let row = Meets given.round given.endpoint given.up given.fate in
    record {
      each_fate = λ round endpoint up. told-more (λ (g : GivenFate). g.fate) (is_fate_of round endpoint up) (fate_in round endpoint up) fates given before row (are.each_fate round endpoint up) refl;
      each_boot = λ round endpoint. told-same (boot_in round endpoint) _ before row (are.each_boot round endpoint) refl;
      each_raw = λ round. told-same (packet_in round) _ before row (are.each_raw round) refl;
    }

pub boot-event : (before : List Row) (boot : Boot) (fates : List GivenFate) (boots : List Boot) (raws : List KeptPacket) (bytes : List ℕ) → AreEventsOf before fates boots raws bytes
    → AreEventsOf (before ++ row.Boot boot.round boot.endpoint boot.version ∷ []) fates (boots ++ boot ∷ []) raws bytes
boot-event before boot fates boots raws bytes are =
    let line = row.Boot boot.round boot.endpoint boot.version in
    record {
      each_fate = λ round endpoint up. told-same (fate_in round endpoint up) _ before line (are.each_fate round endpoint up) refl;
      each_boot = λ round endpoint. told-more (λ (b : Boot). b.version) (is_boot_of round endpoint) (boot_in round endpoint) boots boot before line (are.each_boot round endpoint) refl;
      each_raw = λ round. told-same (packet_in round) _ before line (are.each_raw round) refl;
    }

-- the bytes of a packet stay where more come after them
packet-stays : (bytes more : List ℕ) (raw : KeptPacket) → packet_start raw + raw.size ≤ length bytes → packet_of (bytes ++ more) raw ≡ packet_of bytes raw
packet-stays bytes more raw within =
    let short = length-drop (packet_start raw) bytes in
    ap (take raw.size) (drop-append-le (packet_start raw) bytes more (omega arith)) ∙ take-append-le raw.size (drop (packet_start raw) bytes) more (omega arith)

pub packets-stay : (bytes more : List ℕ) (raws : List KeptPacket) (p : KeptPacket → Bool) → All (IsWithin (length bytes)) raws → map (packet_of (bytes ++ more)) (filter p raws) ≡ map (packet_of bytes) (filter p raws)
packets-stay bytes more [] p within = refl
packets-stay bytes more (raw ∷ raws) p within = by (p raw) (packets-stay bytes more raws p (λ k d lt. within (suc k) d (omega arith)))
  where
    here : packet_of (bytes ++ more) raw ≡ packet_of bytes raw
    here = packet-stays bytes more raw (within 0 raw (omega arith)).0

    by : (b : Bool) → map (packet_of (bytes ++ more)) (filter p raws) ≡ map (packet_of bytes) (filter p raws)
        → map (packet_of (bytes ++ more)) (cond b (raw ∷ filter p raws) (filter p raws)) ≡ map (packet_of bytes) (cond b (raw ∷ filter p raws) (filter p raws))
    by true rest = ap (λ l. packet_of (bytes ++ more) raw ∷ l) rest ∙ ap (λ packet. packet ∷ map (packet_of bytes) (filter p raws)) here
    by false rest = rest

-- a place is what its two parts tell
pub start-from : (round start size : ℕ) → packet_start (packet_from round start size) ≡ start
start-from round start size = omega arith

pub raw-event : (before : List Row) (round : ℕ) (packet : List ℕ) (fates : List GivenFate) (boots : List Boot) (raws : List KeptPacket) (bytes : List ℕ) → All (IsWithin (length bytes)) raws
    → AreEventsOf before fates boots raws bytes → AreEventsOf (before ++ Raw round packet ∷ []) fates boots (raws ++ packet_from round (length bytes) (length packet) ∷ []) (bytes ++ packet)
raw-event before round packet fates boots raws bytes within are =
    let line = Raw round packet in
    let raw : KeptPacket = packet_from round (length bytes) (length packet) in
    let own : packet_of (bytes ++ packet) raw ≡ packet = ap (λ (start : ℕ). take (length packet) (drop start (bytes ++ packet))) (start-from round (length bytes) (length packet))
    ∙ (ap (take (length packet)) (drop-append_seam bytes packet) ∙ take_all (length packet) packet (omega arith)) in
    record {
      each_fate = λ r endpoint up. told-same (fate_in r endpoint up) _ before line (are.each_fate r endpoint up) refl;
      each_boot = λ r endpoint. told-same (boot_in r endpoint) _ before line (are.each_boot r endpoint) refl;
      each_raw = λ r. told-more (packet_of (bytes ++ packet)) (is_packet_of r) (packet_in r) raws raw before line (packets-stay bytes packet raws (is_packet_of r) within ∙ are.each_raw r)
          (ap (λ (p : List ℕ). cond (round == r) (Some p) None) (sym own));
    }

-- the latest round in which a packet was given a fate
pub latest_fate-more : (endpoint : ℕ) (up : Bool) (before : List Row) (row : Row) → latest_fate endpoint up (before ++ row ∷ []) ≡ max (latest_fate endpoint up before) (fated_by endpoint up row)
latest_fate-more endpoint up [] row = omega arith
latest_fate-more endpoint up (first ∷ rows) row = let rest = latest_fate-more endpoint up rows row in omega arith

fated_by-low : (endpoint : ℕ) (up : Bool) (row : Row) → fated_by endpoint up row ≤ named_round row + 1
fated_by-low endpoint up (Net racks hosts cores) = omega arith
fated_by-low endpoint up (Ask round src dst slots) = omega arith
fated_by-low endpoint up (Meets round e u fate) = by ((e == endpoint) && is_same_way u up)
  where
    by : (b : Bool) → cond b (round + 1) 0 ≤ round + 1
    by true = omega arith
    by false = omega arith
fated_by-low endpoint up (row.Boot round e version) = omega arith
fated_by-low endpoint up (Raw round packet) = omega arith
fated_by-low endpoint up (Put e packet) = omega arith
fated_by-low endpoint up (End rounds) = omega arith

pub latest_fate-low : (endpoint : ℕ) (up : Bool) (rows : List Row) → latest_fate endpoint up rows ≤ greatest_round rows + 1
latest_fate-low endpoint up [] = omega arith
latest_fate-low endpoint up (row ∷ rows) = omega (arith, fated_by-low endpoint up row, latest_fate-low endpoint up rows)

-- a packet of the latest round has a fate where that is the latest in which one was given
fated_by-now : (round endpoint : ℕ) (up : Bool) (row : Row) → named_round row ≤ round → is_some (fate_in round endpoint up row) ≡ (fated_by endpoint up row == round + 1)
fated_by-now round endpoint up (Net racks hosts cores) low = grind (arith, nat_tests)
fated_by-now round endpoint up (Ask r src dst slots) low = grind (arith, nat_tests)
fated_by-now round endpoint up (Meets r e u fate) low = by (r == round) refl (e == endpoint) (is_same_way u up)
  where
    by : (a : Bool) → (r == round) ≡ a → (b c : Bool) → is_some (cond (a && b && c) (Some fate) None) ≡ (cond (b && c) (r + 1) 0 == round + 1)
    by true e true true = grind (arith, nat_tests)
    by true e true false = grind (arith, nat_tests)
    by true e false c = grind (arith, nat_tests)
    by false e true true = grind (arith, nat_tests)
    by false e true false = grind (arith, nat_tests)
    by false e false c = grind (arith, nat_tests)
fated_by-now round endpoint up (row.Boot r e version) low = grind (arith, nat_tests)
fated_by-now round endpoint up (Raw r packet) low = grind (arith, nat_tests)
fated_by-now round endpoint up (Put e packet) low = grind (arith, nat_tests)
fated_by-now round endpoint up (End rounds) low = grind (arith, nat_tests)

pub latest_fate-now : (round endpoint : ℕ) (up : Bool) (rows : List Row) → greatest_round rows ≤ round → list_any (λ row. is_some (fate_in round endpoint up row)) rows ≡ (latest_fate endpoint up rows == round + 1)
latest_fate-now round endpoint up [] low = grind (arith, nat_tests)
latest_fate-now round endpoint up (row ∷ rows) low =
    let here = fated_by-now round endpoint up row (omega arith) in
    let rest = latest_fate-now round endpoint up rows (omega arith) in
    let low1 = fated_by-low endpoint up row in
    let low2 = latest_fate-low endpoint up rows in
    rw (here, rest) (by (fated_by endpoint up row) (latest_fate endpoint up rows) (omega arith) (omega arith))
  where
    by : (a b : ℕ) → a ≤ round + 1 → b ≤ round + 1 → ((a == round + 1) || (b == round + 1)) ≡ (max a b == round + 1)
    by a b p q = grind (arith, nat_tests)

-- the table of these rounds, where one more fate is given
pub fated-more : (fated : List ℕ) (n round endpoint : ℕ) (up : Bool) (fate : Fate) (before : List Row) (e : ℕ) (u : Bool) → length fated ≡ n * 2 → endpoint < n → greatest_round before ≤ round
    → get_or fated (e * 2 + way_number u) 0 ≡ latest_fate e u before
    → get_or (set fated (endpoint * 2 + way_number up) (round + 1)) (e * 2 + way_number u) 0 ≡ latest_fate e u (before ++ Meets round endpoint up fate ∷ [])
fated-more fated n round endpoint up fate before e u ways low late is = by up u (endpoint == e) refl is (latest_fate-low e u before) ∙ sym (latest_fate-more e u before (Meets round endpoint up fate))
  where
    by : (a b : Bool) (c : Bool) → (endpoint == e) ≡ c → get_or fated (e * 2 + way_number b) 0 ≡ latest_fate e u before → latest_fate e u before ≤ greatest_round before + 1
        → get_or (set fated (endpoint * 2 + way_number a) (round + 1)) (e * 2 + way_number b) 0 ≡ max (latest_fate e u before) (cond (c && is_same_way a b) (round + 1) 0)
    by true true true f h l =
        let same : endpoint ≡ e = grind (arith, nat_tests) in
        ap (λ k. get_or (set fated (endpoint * 2 + 1) (round + 1)) (k * 2 + 1) 0) (sym same) ∙ get_or-set_same fated (endpoint * 2 + 1) (round + 1) 0 (omega arith) ∙ omega arith
    by false false true f h l =
        let same : endpoint ≡ e = grind (arith, nat_tests) in
        ap (λ k. get_or (set fated (endpoint * 2 + 0) (round + 1)) (k * 2 + 0) 0) (sym same) ∙ get_or-set_same fated (endpoint * 2 + 0) (round + 1) 0 (omega arith) ∙ omega arith
    by true false true f h l = get_or-set_other fated (endpoint * 2 + 1) (e * 2 + 0) (round + 1) 0 (λ k. omega arith) ∙ h ∙ omega arith
    by false true true f h l = get_or-set_other fated (endpoint * 2 + 0) (e * 2 + 1) (round + 1) 0 (λ k. omega arith) ∙ h ∙ omega arith
    by true true false f h l = let differ : endpoint ≢ e = grind (arith, nat_tests) in get_or-set_other fated (endpoint * 2 + 1) (e * 2 + 1) (round + 1) 0 (λ k. omega arith) ∙ h ∙ omega arith
    by false false false f h l = let differ : endpoint ≢ e = grind (arith, nat_tests) in get_or-set_other fated (endpoint * 2 + 0) (e * 2 + 0) (round + 1) 0 (λ k. omega arith) ∙ h ∙ omega arith
    by true false false f h l = get_or-set_other fated (endpoint * 2 + 1) (e * 2 + 0) (round + 1) 0 (λ k. omega arith) ∙ h ∙ omega arith
    by false true false f h l = get_or-set_other fated (endpoint * 2 + 0) (e * 2 + 1) (round + 1) 0 (λ k. omega arith) ∙ h ∙ omega arith

-- what is kept of rows is what happens in them
pub events-same : (before : List Row) (fates : List GivenFate) (boots : List Boot) (raws : List KeptPacket) (bytes : List ℕ) → AreEventsOf before fates boots raws bytes → events_kept fates boots raws bytes ≡ events_of before
events-same before fates boots raws bytes are =
    ap (λ f. record { fates = f; boots = (events_kept fates boots raws bytes).boots; raw = (events_kept fates boots raws bytes).raw })
    (fun_ext (λ round. fun_ext (λ endpoint. fun_ext (λ up. ap (λ (l : List Fate). slice_get l 0) (are.each_fate round endpoint up)))))
    ∙ ap (λ f. record { fates = (events_of before).fates; boots = f; raw = (events_kept fates boots raws bytes).raw }) (fun_ext (λ round. fun_ext (λ endpoint. are.each_boot round endpoint)))
    ∙ ap (λ f. record { fates = (events_of before).fates; boots = (events_of before).boots; raw = f }) (fun_ext are.each_raw)
