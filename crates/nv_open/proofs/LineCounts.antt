-- The lines of parts, which are all that the rules on lines look at.
use Rattle.std.proofs.Common.{◌≡◌, ℕ, ◌+◌, ◌≤◌, min, List, [], ◌∷◌, length, map, take, drop, zero, suc, refl, sym, ap, ◌∙◌, subst, arith}
use Rattle.std.specs.Prelude.{All, slice_index_or, sum_by}
use Rattle.std.proofs.lemmas.List.{length-map, take-map, drop-map, get_or-map}
use Rattle.std.proofs.lemmas.List.Elements.{All-map}
use Rattle.std.proofs.lemmas.List.Sums.{sum_by-cons}
use Rattle.std.specs.List.{AllZip}
use Rattle.nv_plain.specs.Layouts.{Layout, mount_layout}
use Rattle.nv_pmem.specs.Limits.{entry_lines}
use Rattle.nv_pmem.specs.Part.{Part}
use Rattle.nv_pmem.specs.Room.{Room, Keeps}
use Rattle.nv_pmem.specs.RowStates.{AreNow, RowsHaveOneState, TellingRowsHaveStates, row_tells_at, row_tells_from}
use Rattle.nv_pmem.specs.Rows.{RowTells}
use Rattle.nv_pmem.specs.Steps.{PartHistory}
use Rattle.nv_header.specs.Laws.{HasSpare}
use Rattle.nv_header.specs.Needs.{HasLines, header_lines_in, lines_found}
use Rattle.nv_header.specs.Regions.{HasParts, IsRoomy, part_lines}
use Rattle.nv_recover.specs.Changes.{StayParts}
use Rattle.nv_recover.specs.Telling.{AllTell}
use Rattle.nv_open.specs.Refusals.{rooms_of}
use Rattle.nv_open.specs.Unopened.{HaveSameLines, line_counts}

-- how many lines each has
abbrev pub counts_of : List Room → List ℕ
counts_of rooms = map (λ (room : Room). room.lines) rooms

header_counted : (rooms others : List Room) → counts_of rooms ≡ counts_of others → header_lines_in rooms ≡ header_lines_in others
header_counted [] [] same = refl
header_counted [] (other ∷ others) same = cc
header_counted (room ∷ rooms) [] same = cc
header_counted (room ∷ rooms) (other ∷ others) same = cc

sum_counted : (most : ℕ) (rooms : List Room) → sum_by (λ (room : Room). min most room.lines) rooms ≡ sum_by (λ (count : ℕ). min most count) (counts_of rooms)
sum_counted most [] = refl
sum_counted most (room ∷ rooms) =
    sum_by-cons (λ (one : Room). min most one.lines) room rooms
    ∙ ap (λ (n : ℕ). min most room.lines + n) (sum_counted most rooms)
    ∙ sym (sum_by-cons (λ (count : ℕ). min most count) room.lines (counts_of rooms))

found_counted : (layout : Layout) (page entries : ℕ) (rooms : List Room) (first : ℕ) (rest : List ℕ) → counts_of rooms ≡ first ∷ rest
    → lines_found layout page entries rooms ≡ min layout.header_lines first + sum_by (λ (count : ℕ). min (entry_lines page) count) (take entries rest)
found_counted layout page entries [] first rest same = cc
found_counted layout page entries (room ∷ rooms) first rest same =
    let head : room.lines ≡ first = cc in
    let tail : counts_of rooms ≡ rest = cc in
    ap (λ (n : ℕ). min layout.header_lines room.lines + n)
    (sum_counted (entry_lines page) (take entries rooms) ∙ ap (λ (counts : List ℕ). sum_by (λ (count : ℕ). min (entry_lines page) count) counts) (sym (take-map (λ (one : Room). one.lines) entries rooms) ∙ ap (take entries) tail))
    ∙ ap (λ (n : ℕ). min layout.header_lines n + sum_by (λ (count : ℕ). min (entry_lines page) count) (take entries rest)) head

-- rooms with as many lines lack the same
pub found_same : (layout : Layout) (page entries : ℕ) (rooms others : List Room) → counts_of rooms ≡ counts_of others → lines_found layout page entries rooms ≡ lines_found layout page entries others
found_same layout page entries [] [] same = refl
found_same layout page entries [] (other ∷ others) same = cc
found_same layout page entries (room ∷ rooms) [] same = cc
found_same layout page entries (room ∷ rooms) (other ∷ others) same =
    found_counted layout page entries (room ∷ rooms) other.lines (counts_of others) same ∙ sym (found_counted layout page entries (other ∷ others) other.lines (counts_of others) refl)

all_counted : (least : ℕ) (rooms : List Room) → All (λ (room : Room). least ≤ room.lines) rooms → All (λ (count : ℕ). least ≤ count) (counts_of rooms)
all_counted least rooms each = All-map (λ (count : ℕ). least ≤ count) (λ (room : Room). room.lines) rooms each

all_rooms : (least : ℕ) (rooms : List Room) → All (λ (count : ℕ). least ≤ count) (counts_of rooms) → All (λ (room : Room). least ≤ room.lines) rooms
all_rooms least rooms each k d inside =
    subst (λ (n : ℕ). least ≤ n) (get_or-map (λ (room : Room). room.lines) rooms k d d.lines inside) (each k d.lines (omega (arith, length-map rooms (λ (room : Room). room.lines))))

slots_counted : (entries : ℕ) (rooms : List Room) → counts_of (take entries (drop 1 rooms)) ≡ take entries (drop 1 (counts_of rooms))
slots_counted entries rooms = sym (take-map (λ (room : Room). room.lines) entries (drop 1 rooms)) ∙ ap (take entries) (sym (drop-map (λ (room : Room). room.lines) 1 rooms))

-- and have them all where the others do
pub has_lines_same : (layout : Layout) (page entries : ℕ) (rooms others : List Room) → counts_of rooms ≡ counts_of others → HasLines layout page entries rooms → HasLines layout page entries others
has_lines_same layout page entries rooms others same has = record {
  header = omega (arith, has.header, header_counted rooms others same);
  count = omega (arith, has.count, length-map rooms (λ (room : Room). room.lines), length-map others (λ (room : Room). room.lines), ap length same);
  each =
      all_rooms (entry_lines page) (take entries (drop 1 others))
      (subst (λ (counts : List ℕ). All (λ (count : ℕ). entry_lines page ≤ count) counts)
      (slots_counted entries rooms ∙ ap (λ (counts : List ℕ). take entries (drop 1 counts)) same ∙ sym (slots_counted entries others))
      (all_counted (entry_lines page) (take entries (drop 1 rooms)) has.each));
}

-- ---- the rooms of parts

-- parts that were only read have as many lines
pub kept_counts : {X : Type 0} (room : X → Room) (old new : List X) → AllZip (λ before now. Keeps (room before) (room now)) old new → counts_of (map room new) ≡ counts_of (map room old)
kept_counts room [] [] keeps = refl
kept_counts room [] (y ∷ new) keeps = absurd keeps
kept_counts room (x ∷ old) [] keeps = absurd keeps
kept_counts room (x ∷ old) (y ∷ new) keeps =
    ap (λ (count : ℕ). count ∷ counts_of (map room new)) keeps.0.lines ∙ ap (λ (others : List ℕ). (room x).lines ∷ others) (kept_counts room old new keeps.1)

-- and take no less
pub kept_spare : {X : Type 0} (room : X → Room) (old new : List X) → AllZip (λ before now. Keeps (room before) (room now)) old new → All HasSpare (map room old) → All HasSpare (map room new)
kept_spare room [] [] keeps spare k d inside = absurd (omega arith)
kept_spare room [] (y ∷ new) keeps spare k d inside = absurd keeps
kept_spare room (x ∷ old) [] keeps spare k d inside = absurd keeps
kept_spare room (x ∷ old) (y ∷ new) keeps spare zero d inside = λ line below. omega (arith, keeps.0.spare line, keeps.0.lines, spare 0 d (omega arith) line (omega (arith, keeps.0.lines)))
kept_spare room (x ∷ old) (y ∷ new) keeps spare (suc k) d inside =
    kept_spare room old new keeps.1 (λ i none within. spare (suc i) none (omega arith)) k d (omega arith)

-- where the header's part has the lines of a mount's header, it has room for that, also after calls that let parts stay those of a region
header_room : (rooms : List Room) → All HasSpare rooms → mount_layout.header_lines ≤ header_lines_in rooms → HasParts mount_layout 0 0 rooms
header_room [] spare long = absurd (omega (arith, long))
header_room (room ∷ rooms) spare long = record { count = omega arith; each = λ i none within. at i none within }
  where
    at : (i : ℕ) (none : Room) → i ≤ 0 → IsRoomy (part_lines mount_layout 0 i) (slice_index_or (room ∷ rooms) i none)
    at zero none within = record { there = long; spare = λ line below. spare 0 room (omega arith) line (omega (arith, below, long)) }
    at (suc i) none within = absurd (omega (arith, within))

pub roomy_header : (back after : List Room) {read : List Room} → back ≡ read → All HasSpare read → mount_layout.header_lines ≤ header_lines_in read → StayParts back after
    → (none : Room) → IsRoomy mount_layout.header_lines (slice_index_or after 0 none)
roomy_header back after same spare long stay none =
    (stay mount_layout 0 0 (subst (HasParts mount_layout 0 0) (sym same) (header_room _ spare long))).each 0 none (omega arith)

-- Parts have the lines that they tell of.
pub told_counts : {X : Type 0} (history : X → PartHistory) (room : X → Room) → ((p : X) (now : Part) (past : PartHistory) → history p ≡ now ∷ past → length now ≡ (room p).lines)
    → (parts : List X) (told : List Part) → AreNow (map history parts) told → counts_of (map room parts) ≡ counts_of (rooms_of told)
told_counts history room lines [] [] are = refl
told_counts history room lines [] (now ∷ told) are = absurd are
told_counts history room lines (part ∷ parts) [] are = absurd are
told_counts history room lines (part ∷ parts) (now ∷ told) are =
    ap (λ (count : ℕ). count ∷ counts_of (map room parts)) (sym (lines part now are.0.past are.0.is))
    ∙ ap (λ (others : List ℕ). length now ∷ others) (told_counts history room lines parts told are.1)

rooms_counted : (parts : List Part) → counts_of (rooms_of parts) ≡ line_counts parts
rooms_counted [] = refl
rooms_counted (part ∷ parts) = ap (λ (counts : List ℕ). length part ∷ counts) (rooms_counted parts)

counted_rooms : {X : Type 0} (room : X → Room) (parts : List X) → counts_of (map room parts) ≡ map (λ part. (room part).lines) parts
counted_rooms room [] = refl
counted_rooms room (part ∷ parts) = ap (λ (counts : List ℕ). (room part).lines ∷ counts) (counted_rooms room parts)

-- parts that tell the same have the same lines that they say
pub long_alike : (layout : Layout) (page entries : ℕ) (parts others : List Part) → line_counts parts ≡ line_counts others → HasLines layout page entries (rooms_of parts) → HasLines layout page entries (rooms_of others)
long_alike layout page entries parts others same = has_lines_same layout page entries (rooms_of parts) (rooms_of others) (rooms_counted parts ∙ same ∙ sym (rooms_counted others))

-- ---- parts before and after a call

-- what is said of two rows, at their states
pub lines_at : (old new : List PartHistory) (was now : List Part) → HaveSameLines old new → AreNow old was → AreNow new now → line_counts now ≡ line_counts was
lines_at old new was now same was_are now_are =
    row_tells_at new (λ now. line_counts now ≡ line_counts was) now now_are (row_tells_at old (λ was. RowTells new (λ now. line_counts now ≡ line_counts was)) was was_are same)

pub lines_from : (old new : List PartHistory) → ((was now : List Part) → AreNow old was → AreNow new now → line_counts now ≡ line_counts was) → HaveSameLines old new
lines_from old new each =
    row_tells_from old (λ was. RowTells new (λ now. line_counts now ≡ line_counts was)) (λ was was_are. row_tells_from new (λ now. line_counts now ≡ line_counts was) (λ now now_are. each was now was_are now_are))

-- parts whose rooms have as many lines
pub same_lines : {X : Type 0} (history : X → PartHistory) (room : X → Room) → ((p : X) (now : Part) (past : PartHistory) → history p ≡ now ∷ past → length now ≡ (room p).lines)
    → (old new : List X) → map (λ part. (room part).lines) new ≡ map (λ part. (room part).lines) old → HaveSameLines (map history old) (map history new)
same_lines history room lines old new same =
    lines_from (map history old) (map history new) (λ was now was_are now_are.
    sym (rooms_counted now) ∙ sym (told_counts history room lines new now now_are) ∙ counted_rooms room new ∙ same ∙ sym (counted_rooms room old) ∙ told_counts history room lines old was was_are ∙ rooms_counted was)

-- the same row
pub own_lines : RowsHaveOneState → (row : List PartHistory) → HaveSameLines row row
own_lines one row = lines_from row row (λ was now was_are now_are. ap line_counts (one row now was now_are was_are))

-- one call behind another, where the parts tell between them
pub lines_behind : TellingRowsHaveStates → (old mid new : List PartHistory) → AllTell mid → HaveSameLines old mid → HaveSameLines mid new → HaveSameLines old new
lines_behind states old mid new tell first then_ =
    let between = states mid tell in
    lines_from old new (λ was now was_are now_are.
    lines_at mid new between.states now then_ between.are now_are ∙ lines_at old mid was between.states first was_are between.are)
