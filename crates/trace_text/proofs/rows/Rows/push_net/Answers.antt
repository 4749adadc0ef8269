use Rattle.std.proofs.Common.{◌≡◌, ℕ, ◌+◌, ◌*◌, [], List, get_or, refl, ap, subst, ◌∙◌, arith, rules}
use Rattle.clos_topology.specs.Network.{endpoints_of}
use Rattle.trace_text.specs.Events.{way_number}
use Rattle.trace_text.specs.Standing.{StandsFor}
use Rattle.trace_text.proofs.RowFacts.{no-rows}
use Rattle.trace_text.proofs.TableFacts.{all-same}
use Rattle.trace_text.proofs.rows.Rows.push_net.Goals as goal

pub returns : goal.returns
returns c = λ before stands.
    let empty : before ≡ [] = no-rows before c.args.self.now.net c.requires.0 stands.net in
    let s : StandsFor [] c.args.self.now = subst (λ rows. StandsFor rows c.args.self.now) empty stands in
    rw empty (record {
      count = refl;
      net = (omega arith, refl, c.requires.1);
      endpoints = c.from-self.ensures ∙ c.endpoints-3.ensures.number;
      round = omega (arith, s.round);
      ended = s.ended;
      short = s.short;
      table = search rules;
      totals = λ src dst low low2. ap (λ (xs : List ℕ). get_or xs (src * endpoints_of c.args.net + dst) 0) (c.in_ok-self.ensures.items_if_clones_equal (λ y cloned. search rules))
          ∙ all-same 0 (c.from-endpoints.result * c.from-endpoints.result) (src * endpoints_of c.args.net + dst);
      bounded = search rules;
      tidy = s.tidy;
      asks = search rules;
      among = search rules;
      held_among = search rules;
      ways = search rules;
      fated = λ endpoint up low. ap (λ (xs : List ℕ). get_or xs (endpoint * 2 + way_number up) 0) (c.in_ok-self-2.ensures.items_if_clones_equal (λ y cloned. search rules))
          ∙ all-same 0 (c.from-endpoints.result * 2) (endpoint * 2 + way_number up);
      events = search rules;
      few = omega (arith, s.few);
      few_raws = omega (arith, s.few_raws);
      few_bytes = omega (arith, s.few_bytes);
      bounds = search rules;
      puts = search rules;
    })
