-- The packets that rows put, where one row more stands at their end, and their order.
use Rattle.std.proofs.Common.{◌≡◌, ◌≢◌, ℕ, ◌+◌, ◌<◌, ◌≤◌, List, [], ◌∷◌, ◌++◌, length, get_or, set, map, take, drop, Bool, true, false, cond, All, Option, Some, None, refl, sym, ap, subst, ◌∙◌, arith, length-append, length-set}
use Rattle.std.specs.Prelude.{◌==◌}
use Rattle.std.specs.List.{filter_map, cons_option}
use Rattle.std.specs.List.Sorted.{IsStableByKey}
use Rattle.std.specs.Ordering.{nat_cmp}
use Rattle.std.proofs.Math.Seq.{drop-append_seam}
use Rattle.std.proofs.lemmas.Bool.Decides.{nat_tests}
use Rattle.std.proofs.lemmas.List.{take_all, get_or-set_same, get_or-set_other}
use Rattle.std.proofs.lemmas.List.Elements.{All-push, filter_map-append}
use Rattle.trace_text.specs.Rows.{Row, Put}
use Rattle.clos_topology.specs.Network.{Network, endpoints_of}
use Rattle.trace_text.specs.Earlier.{net_of, put_in}
use Rattle.trace_text.specs.Events.{IsWithin, is_packet_of, packet_of, packet_from, packet_rank}
use Rattle.trace_text.specs.Standing.{IsNetOf, endpoints_kept}
use Rattle.trace_text.specs.Puts.{AreFew, ArePutsOf, puts_in, puts_kept}
use Rattle.trace_text.specs.Trace.{each_below}
use Rattle.trace_text.specs.declared.packets.KeptPacket.{KeptPacket}
use Rattle.trace_text.specs.declared.puts.PutRows.{PutRows}
use Rattle.trace_text.proofs.EventFacts.{stable-part}
use Rattle.trace_text.proofs.EventRowFacts.{told-same, told-more, packets-stay, start-from}
use Rattle.trace_text.proofs.RowFacts.{length-more}

-- the order in which they are kept changes nothing of what is told
pub puts-ordered : (packets packets2 : List KeptPacket) (bytes : List ℕ) (endpoint : ℕ) → IsStableByKey packet_rank nat_cmp packets packets2 → puts_kept packets2 bytes endpoint ≡ puts_kept packets bytes endpoint
puts-ordered packets packets2 bytes endpoint stable =
    ap (map (packet_of bytes)) (stable-part packet_rank (is_packet_of endpoint) (record { key = endpoint; low = 0; high = 0; size = 0 }) packets packets2 stable (λ x e. grind (arith, nat_tests)))

-- an endpoint of the net that is kept is one of the first row's
pub below-net : (before : List Row) (net : Option Network) (endpoint : ℕ) → IsNetOf before net → endpoint < endpoints_kept net → endpoint < endpoints_of (net_of before)
below-net before None endpoint is low = absurd (omega arith)
below-net before (Some net) endpoint is low = rw is.1 low

-- where no packet was put
pub none_few : (puts : PutRows) → puts.packets.items ≡ [] → AreFew puts
none_few puts packets = record {
  within = subst (λ l. All (IsWithin (length puts.bytes.items)) l) (sym packets) (λ k d lt. absurd (omega arith));
  few = λ endpoint. omega (arith, ap (λ l. length (puts_kept l puts.bytes.items endpoint)) packets);
}

pub none_kept : (n : ℕ) (puts : PutRows) → puts.packets.items ≡ [] → each_below n (puts_in puts) ≡ each_below n (λ endpoint. [])
none_kept n puts packets = ap (λ l. each_below n (puts_kept l puts.bytes.items)) packets

pub none_put : (endpoints : ℕ) (puts : PutRows) → puts.packets.items ≡ [] → puts.bytes.items ≡ [] → length puts.counts.items ≡ endpoints → ((endpoint : ℕ) → get_or puts.counts.items endpoint 0 ≡ 0)
    → ArePutsOf [] endpoints puts
none_put endpoints puts packets bytes counted none = record {
  each = λ endpoint. ap (λ l. puts_kept l puts.bytes.items endpoint) packets;
  counted = counted;
  counts = λ endpoint low. none endpoint;
  are_few = none_few puts packets;
  few_bytes = omega (arith, ap length bytes);
}

-- a row of another kind puts none
pub no_put : (before : List Row) (row : Row) (endpoints : ℕ) (puts : PutRows) → ((endpoint : ℕ) → put_in endpoint row ≡ None) → ArePutsOf before endpoints puts → ArePutsOf (before ++ row ∷ []) endpoints puts
no_put before row endpoints puts none are = record {
  each = λ endpoint. told-same (put_in endpoint) _ before row (are.each endpoint) (none endpoint);
  counted = are.counted;
  counts = λ endpoint low. are.counts endpoint low ∙ ap length (told-same (put_in endpoint) _ before row refl (none endpoint));
  are_few = are.are_few;
  few_bytes = omega (arith, length-more before row, are.few_bytes);
}

-- how many an endpoint put
count-more : (before : List Row) (endpoint e : ℕ) (packet : List ℕ)
    → length (filter_map (put_in e) (before ++ Put endpoint packet ∷ [])) ≡ length (filter_map (put_in e) before) + cond (endpoint == e) 1 0
count-more before endpoint e packet =
    ap length (filter_map-append (put_in e) before (Put endpoint packet ∷ [])) ∙ length-append (filter_map (put_in e) before) (cons_option (cond (endpoint == e) (Some packet) None) [])
    ∙ ap (λ n. length (filter_map (put_in e) before) + n) (by (endpoint == e))
  where
    by : (b : Bool) → length (cons_option (cond b (Some packet) None) []) ≡ cond b 1 0
    by true = refl
    by false = refl

counted-more : (counts : List ℕ) (before : List Row) (endpoint e : ℕ) (packet : List ℕ) → endpoint < length counts → get_or counts endpoint 0 ≡ length (filter_map (put_in endpoint) before)
    → get_or counts e 0 ≡ length (filter_map (put_in e) before)
    → get_or (set counts endpoint (get_or counts endpoint 0 + 1)) e 0 ≡ length (filter_map (put_in e) (before ++ Put endpoint packet ∷ []))
counted-more counts before endpoint e packet low own is = by (endpoint == e) refl ∙ sym (count-more before endpoint e packet)
  where
    by : (b : Bool) → (endpoint == e) ≡ b → get_or (set counts endpoint (get_or counts endpoint 0 + 1)) e 0 ≡ length (filter_map (put_in e) before) + cond b 1 0
    by true f =
        let same : endpoint ≡ e = grind (arith, nat_tests) in
        ap (λ k. get_or (set counts endpoint (get_or counts endpoint 0 + 1)) k 0) (sym same)
        ∙ get_or-set_same counts endpoint (get_or counts endpoint 0 + 1) 0 low ∙ ap (λ n. n + 1) own ∙ ap (λ k. length (filter_map (put_in k) before) + 1) same
    by false f =
        let differ : e ≢ endpoint = grind (arith, nat_tests) in
        get_or-set_other counts endpoint e (get_or counts endpoint 0 + 1) 0 differ ∙ is ∙ omega arith

-- one packet more
module _ (before : List Row) (endpoint n : ℕ) (packet : List ℕ) (old new : PutRows)
    (packets : new.packets.items ≡ old.packets.items ++ packet_from endpoint (length old.bytes.items) (length packet) ∷ []) (bytes : new.bytes.items ≡ old.bytes.items ++ packet)
    (counts : new.counts.items ≡ set old.counts.items endpoint (get_or old.counts.items endpoint 0 + 1)) (low : endpoint < n) (few : get_or old.counts.items endpoint 0 < 1024)
    (short : length packet ≤ 2048) (are : ArePutsOf before n old) where
  abbrev line : Row
  line = Put endpoint packet

  abbrev kept : KeptPacket
  kept = packet_from endpoint (length old.bytes.items) (length packet)

  own : packet_of (old.bytes.items ++ packet) kept ≡ packet
  own =
      ap (λ (start : ℕ). take (length packet) (drop start (old.bytes.items ++ packet))) (start-from endpoint (length old.bytes.items) (length packet))
      ∙ (ap (take (length packet)) (drop-append_seam old.bytes.items packet) ∙ take_all (length packet) packet (omega arith))

  each : (e : ℕ) → puts_in new e ≡ filter_map (put_in e) (before ++ line ∷ [])
  each e =
      ap (λ l. puts_kept l new.bytes.items e) packets
      ∙ (ap (λ l. puts_kept (old.packets.items ++ kept ∷ []) l e) bytes
      ∙ told-more (packet_of (old.bytes.items ++ packet)) (is_packet_of e) (put_in e) old.packets.items kept before line
      (packets-stay old.bytes.items packet old.packets.items (is_packet_of e) are.are_few.within ∙ are.each e) (ap (λ (p : List ℕ). cond (endpoint == e) (Some p) None) (sym own)))

  many : (e : ℕ) → length (filter_map (put_in e) (before ++ line ∷ [])) ≤ 1024
  many e = by (endpoint == e) refl
    where
      by : (b : Bool) → (endpoint == e) ≡ b → length (filter_map (put_in e) (before ++ line ∷ [])) ≤ 1024
      by true f =
          let same : endpoint ≡ e = grind (arith, nat_tests) in
          let here : length (filter_map (put_in e) before) < 1024 = subst (λ (k : ℕ). length (filter_map (put_in k) before) < 1024) same (omega (arith, are.counts endpoint low, few)) in
          omega (arith, count-more before endpoint e packet ∙ ap (λ b. length (filter_map (put_in e) before) + cond b 1 0) f, here)
      by false f = omega (arith, count-more before endpoint e packet ∙ ap (λ b. length (filter_map (put_in e) before) + cond b 1 0) f, ap length (are.each e), are.are_few.few e)

  pub put_more : ArePutsOf (before ++ line ∷ []) n new
  put_more = record {
    each = each;
    counted = ap length counts ∙ length-set old.counts.items endpoint (get_or old.counts.items endpoint 0 + 1) ∙ are.counted;
    counts = λ e lt. ap (λ l. get_or l e 0) counts ∙ counted-more old.counts.items before endpoint e packet (omega (arith, are.counted, low)) (are.counts endpoint low) (are.counts e lt);
    are_few = record {
      within = subst (λ l. All (IsWithin (length new.bytes.items)) l) (sym packets) (subst (λ (l : List ℕ). All (IsWithin (length l)) (old.packets.items ++ kept ∷ [])) (sym bytes) (All-push (IsWithin (length (old.bytes.items ++ packet))) old.packets.items _
          (λ k d lt. let here = are.are_few.within k d lt in (omega (arith, here.0, length-append old.bytes.items packet), here.1))
          (omega (arith, start-from endpoint (length old.bytes.items) (length packet), length-append old.bytes.items packet), short)));
      few = λ e. omega (arith, ap length (each e), many e);
    };
    few_bytes = omega (arith, ap length bytes, length-more before line, length-append old.bytes.items packet, short, are.few_bytes);
  }
