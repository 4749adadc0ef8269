-- How `slot` and `sent` lines are judged while the schedule goes by, place after place (this project's own profile).
use Rattle.std.specs.Prelude.{◌≡◌, ◌<◌, ◌≤◌, ℕ, ◌+◌, ◌*◌, Bool, false, not, ◌==◌, ◌&&◌, ◌||◌, min, List, [], ◌∷◌, ◌++◌, length, take, drop, All, Option, Some, None, if◌then◌else◌}
use Rattle.std.specs.List.{list_any, slice_get, slice_index_or}
use Rattle.clos_topology.specs.Network.{Network}
use Rattle.schedule_audit.specs.declared.path_lines.PathLines.{PathLines}
use Rattle.schedule_audit.specs.declared.send_lines.SendLines.{SendLines}
use Rattle.schedule_audit.specs.Lines.{Place, Path}
use Rattle.schedule_audit.specs.Numbered.{Numbered}
use Rattle.schedule_audit.specs.Wrong.{same_place, share_a_link, has_wrong_core}
use Rattle.schedule_audit.specs.BadLines.{or_else}
use Rattle.schedule_audit.specs.Marks.{AreUpTo, PathsAreMarked}

-- ---- slots

-- the path of a line is not what comes at this place, after these
abbrev pub is_off : Network → Place → List Path → Path → Bool
is_off net place before path = not (same_place place path.place) || (has_wrong_core net path.place.flow path.core || list_any (share_a_link net path) before)

-- the first wrong `slot` line, where these places are still to come and these paths were right
abbrev pub first_path : Network → List Place → List Path → List (Numbered Path) → Option ℕ
first_path net places before [] = None
first_path net [] before (p ∷ ps) = Some p.line
first_path net (place ∷ places) before (p ∷ ps) = if is_off net place before p.said then Some p.line else first_path net places (p.said ∷ before) ps

-- these places went by
pub record PathsStand (net : Network) (visited : List Place) (lines : PathLines) : Type 0 where
  pub before : List Path
  pub goes_on : (later : List Place) → first_path net (visited ++ later) [] lines.lines.items ≡ or_else lines.bad (first_path net later before (drop lines.next lines.lines.items))
  pub upto : (slot : ℕ) → All (λ place. place.slot ≤ slot) visited → AreUpTo slot before
  pub marked : lines.bad ≡ None → PathsAreMarked net lines.links before

-- ---- sends

-- by slot, then source
abbrev pub order_of : Place → ℕ
order_of place = place.slot * 65536 + place.flow.src

abbrev pub AreBefore : ℕ → List Place → Type 0
AreBefore order places = All (λ place. order_of place < order) places

-- one of these lines has a place's slot and source
abbrev pub has_order : List (Numbered Place) → Place → Bool
has_order lines place = list_any (λ l. order_of l.said == order_of place) lines

-- the line of a place that is none of these, or is of the slot and source of a line before it
abbrev pub is_missed : List Place → List (Numbered Place) → Place → Bool
is_missed places front place = not (not (has_order front place) && list_any (same_place place) places)

-- the first of two lines
abbrev pub earlier : Option ℕ → Option ℕ → Option ℕ
earlier None other = other
earlier (Some line) None = Some line
earlier (Some line) (Some other) = Some (min line other)

abbrev pub line_if : Bool → ℕ → Option ℕ
line_if b line = if b then Some line else None

-- the first of all such lines
abbrev pub first_missed : List Place → List (Numbered Place) → List (Numbered Place) → Option ℕ
first_missed places front [] = None
first_missed places front (l ∷ lines) = earlier (line_if (is_missed places front l.said) l.line) (first_missed places (front ++ l ∷ []) lines)

-- by slot and source they rise
abbrev pub AreRising : List (Numbered Place) → Type 0
AreRising lines = (i j : ℕ) (s t : Numbered Place) → i ≤ j → slice_get lines i ≡ Some s → slice_get lines j ≡ Some t → order_of s.said ≤ order_of t.said

-- these places went by
pub record SendsStand (visited : List Place) (sends : SendLines) : Type 0 where
  pub long : length sends.found.items ≡ length sends.lines.items
  pub within : sends.next ≤ length sends.lines.items
  pub rising : AreRising sends.lines.items
  pub found_are : (i : ℕ) (s : Numbered Place) → slice_get sends.lines.items i ≡ Some s
      → slice_index_or sends.found.items i false ≡ (not (has_order (take i sends.lines.items) s.said) && list_any (same_place s.said) visited)
  pub passed : (order : ℕ) → AreBefore order visited → (i : ℕ) (s : Numbered Place) → i < sends.next → slice_get sends.lines.items i ≡ Some s → order_of s.said < order
