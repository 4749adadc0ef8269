use Rattle.std.proofs.Common.{◌≡◌, ◌≤◌, ℕ, true, false, All, length, sym, subst, arith}
use Rattle.edge_colouring.specs.Degrees.{HasRacksBelow, HasDegreesWithin, IsFirstExcess, IsFirstOf, degree_on}
use Rattle.edge_colouring.proofs.DegreeLemmas.{AreDegrees, racks_below, degrees_within, both_within, excess_is_first, match_more}
use Rattle.edge_colouring.proofs.table.excess.Goals as goal

pub count_degrees-requires : goal.count_degrees-requires
count_degrees-requires c = racks_below true (length c.args.degrees.now) c.args.graph.now.edges c.requires.racks

pub returns-in-Some : goal.returns-in-Some
returns-in-Some c =
    let counted : AreDegrees true c.args.graph.now.edges c.count_degrees.new.degrees = λ rack below. c.count_degrees.ensures rack (omega (arith, c.count_degrees.auto.degrees)) in
    excess_is_first true c.args.graph.now.edges c.count_degrees.new.degrees c.args.most c.in-Some.degree counted c.in-Some.ensures (λ e. cc)

pub count_degrees-requires-2 : goal.count_degrees-requires-2
count_degrees-requires-2 c =
    let P : ℕ → Type 0 = λ n. HasRacksBelow n c.args.graph.now.edges in
    racks_below false (length c.count_degrees.new.degrees) c.args.graph.now.edges (subst P (sym c.count_degrees.auto.degrees) c.requires.racks)

pub returns : goal.returns
returns c =
    let edges = c.args.graph.now.edges in
    let most = c.args.most in
    let P : ℕ → Type 0 = λ n. HasRacksBelow n edges in
    let lefts = c.count_degrees.new.degrees in
    let rights = c.count_degrees-2.new.degrees in
    let left_size : length lefts ≡ length c.args.degrees.now = c.count_degrees.auto.degrees in
    let right_size : length rights ≡ length c.args.degrees.now = omega (arith, c.count_degrees-2.auto.degrees, c.count_degrees.auto.degrees) in
    let left_counted : AreDegrees true edges lefts = λ rack below. c.count_degrees.ensures rack (omega (arith, left_size)) in
    let right_counted : AreDegrees false edges rights = λ rack below. c.count_degrees-2.ensures rack (omega (arith, left_size, right_size)) in
    let left_within : (rack : ℕ) → degree_on true rack edges ≤ most = degrees_within true edges lefts most (subst P (sym left_size) c.requires.racks) left_counted c.in_default.ensures in
    match_more c.first_excess-2.result (All (λ degree. degree ≤ most) rights) (HasDegreesWithin most edges) (IsFirstOf most false rights) (IsFirstExcess most edges) c.first_excess-2.ensures
    (λ within. both_within edges most left_within (degrees_within false edges rights most (subst P (sym right_size) c.requires.racks) right_counted within))
    (λ found is. excess_is_first false edges rights most found right_counted is (λ e. left_within))
