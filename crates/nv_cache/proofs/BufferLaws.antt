-- Buffers: how many the owned cells keep, while the buffer of a victim moves.
use Rattle.std.proofs.Common.{◌≡◌, ◌≢◌, ℕ, ◌+◌, Bool, true, false, if◌then◌else◌, List, [], ◌∷◌, refl, sym, ap, ap₂, ◌∙◌, arith}
use Rattle.std.specs.Prelude.{Some, None}
use Rattle.nv_core.specs.state.Core.{with_value}
use Rattle.nv_core.specs.state.Passes.{times}
use Rattle.nv_core.specs.state.Values.{Value, Bare, APart, AStore, ABuffer, buffers_in, emptied, lacks_buffer, received}
use Rattle.nv_core.specs.state.Words.{Sizes, Word, PAGE, same}
use Rattle.nv_core.specs.steps.Order.{Values}
use Rattle.nv_core.proofs.invariant.LockLaws.{times_here}
use Rattle.nv_core.proofs.state.Changes.{differ, same_true, word_here, word_else}
use Rattle.nv_pages.specs.PageWork.{robbed}
use Rattle.nv_mirror.proofs.CellLaws.{page_is}
use Rattle.nv_cache.specs.declared.search.SearchControl.{SearchControl}
use Rattle.nv_cache.specs.declared.search.SearchControl.TheVariants.{Found, NotFound}
use Rattle.nv_cache.specs.declared.search.SearchControl.TheVariants as searches
use Rattle.nv_cache.specs.declared.search.SearchMachine.{SearchMachine}
use Rattle.nv_cache.specs.Searches.{Fits, FitsAt, KnowsAt, buffers_among, search_owned_at, values_moved_at}
use Rattle.nv_cache.proofs.SearchFacts.{page_once_still, victim_apart, victim_once}

-- ---- some cells

pub times_more : (cell first : Word) (owned : List Word) → times cell owned ≢ 0 → times cell (first ∷ owned) ≢ 0
times_more cell first owned some none = by (same cell first) none
  where
    by : (b : Bool) → (if b then 1 else 0) + times cell owned ≡ 0 → ⊥
    by true e = omega (arith, e)
    by false e = some (omega (arith, e))

-- those that keep the same keep as many
pub same_count : (cells : List Word) (one other : Values) → ((cell : Word) → times cell cells ≢ 0 → one cell ≡ other cell) → buffers_among cells one ≡ buffers_among cells other
same_count [] one other agree = refl
same_count (cell ∷ rest) one other agree =
    ap₂ (λ value count. buffers_in value + count) (agree cell (λ none. let here = times_here cell rest in omega (arith, here, none)))
    (same_count rest one other (λ c some. agree c (times_more c cell rest some)))

-- one that isn't among them changes nothing
elsewhere : (cells : List Word) (values : Values) (cell : Word) (value : Value) → times cell cells ≡ 0 → buffers_among cells (with_value values cell value) ≡ buffers_among cells values
elsewhere cells values cell value none = same_count cells (with_value values cell value) values (λ other some. word_else values cell value other (λ e. some (ap (λ c. times c cells) e ∙ none)))

-- and one that is once changes it by what it keeps
changed : (cells : List Word) (values : Values) (cell : Word) (value : Value) → times cell cells ≡ 1 → buffers_among cells (with_value values cell value) + buffers_in (values cell) ≡ buffers_among cells values + buffers_in value
changed [] values cell value once = absurd (omega (arith, once))
changed (first ∷ rest) values cell value once = by (λ once_then. changed rest values cell value once_then) (same cell first) refl
  where
    by : (times cell rest ≡ 1 → buffers_among rest (with_value values cell value) + buffers_in (values cell) ≡ buffers_among rest values + buffers_in value) → (b : Bool) → same cell first ≡ b
        → buffers_among (first ∷ rest) (with_value values cell value) + buffers_in (values cell) ≡ buffers_among (first ∷ rest) values + buffers_in value
    by later true e =
        let is = same_true cell first e in
        let none : times cell rest ≡ 0 = let count = sym (ap (λ b. (if b then 1 else 0) + times cell rest) e) ∙ once in omega (arith, count) in
        let here : buffers_in (with_value values cell value first) ≡ buffers_in value = ap buffers_in (ap (with_value values cell value) (sym is) ∙ word_here values cell value) in
        let other = elsewhere rest values cell value none in
        let was : buffers_in (values cell) ≡ buffers_in (values first) = ap (λ c. buffers_in (values c)) is in
        omega (arith, here, other, was)
    by later false e =
        let once_then : times cell rest ≡ 1 = let count = sym (ap (λ b. (if b then 1 else 0) + times cell rest) e) ∙ once in omega (arith, count) in
        let here : buffers_in (with_value values cell value first) ≡ buffers_in (values first) = ap buffers_in (word_else values cell value first (λ is. differ cell first e (sym is))) in
        let other = later once_then in
        omega (arith, here, other)

-- ---- a buffer that moves

none_emptied : (value : Value) → buffers_in (emptied value) ≡ 0
none_emptied Bare = refl
none_emptied (APart device spares) = refl
none_emptied (AStore device) = refl
none_emptied (ABuffer buffer) = refl

none_lacking : (value : Value) → lacks_buffer value ≡ true → buffers_in value ≡ 0
none_lacking Bare lacks = refl
none_lacking (APart device spares) lacks = refl
none_lacking (AStore device) lacks = refl
none_lacking (ABuffer None) lacks = refl
none_lacking (ABuffer (Some buffer)) lacks = absurd cc

as_many : (victim value : Value) → lacks_buffer value ≡ true → buffers_in (received victim value) ≡ buffers_in victim
as_many (ABuffer (Some buffer)) (ABuffer None) lacks = refl
as_many (ABuffer (Some buffer)) (ABuffer (Some other)) lacks = absurd cc
as_many (ABuffer (Some buffer)) Bare lacks = absurd cc
as_many (ABuffer (Some buffer)) (APart device spares) lacks = absurd cc
as_many (ABuffer (Some buffer)) (AStore device) lacks = absurd cc
as_many (ABuffer None) value lacks = none_lacking value lacks
as_many Bare value lacks = none_lacking value lacks
as_many (APart device spares) value lacks = none_lacking value lacks
as_many (AStore device) value lacks = none_lacking value lacks

robbed_count : (cells : List Word) (victim page : ℕ) (values : Values) → times (PAGE victim) cells ≡ 1 → times (PAGE page) cells ≡ 1 → victim ≢ page → lacks_buffer (values (PAGE page)) ≡ true
    → buffers_among cells (robbed victim page values) ≡ buffers_among cells values
robbed_count cells victim page values once_victim once_page apart lacks =
    let got : Value = received (values (PAGE victim)) (values (PAGE page)) in
    let given = changed cells (with_value values (PAGE page) got) (PAGE victim) (emptied (values (PAGE victim))) once_victim in
    let taken = changed cells values (PAGE page) got once_page in
    let still : buffers_in (with_value values (PAGE page) got (PAGE victim)) ≡ buffers_in (values (PAGE victim)) = ap buffers_in (word_else values (PAGE page) got (PAGE victim) (λ e. apart (page_is e))) in
    let none = none_emptied (values (PAGE victim)) in
    let lacked = none_lacking (values (PAGE page)) lacks in
    let moved = as_many (values (PAGE victim)) (values (PAGE page)) lacks in
    omega (arith, given, taken, still, none, lacked, moved)

-- a step of a search makes and loses none
pub moved_count : (sizes : Sizes) (m : SearchMachine) (control : SearchControl) (values : Values) → Fits sizes m → FitsAt sizes m control → KnowsAt values m control
    → buffers_among (search_owned_at m control) (values_moved_at m control values) ≡ buffers_among (search_owned_at m control) values
moved_count sizes m (searches.GiveVictim buffer victim) values fits at knows =
    robbed_count (search_owned_at m (searches.GiveVictim buffer victim)) victim m.page values (victim_once sizes m fits victim at.1) (page_once_still sizes m fits victim at.1) (victim_apart sizes m fits victim at.1) knows
moved_count sizes m (searches.Begin from) values fits at knows = refl
moved_count sizes m (searches.TurnHand given) values fits at knows = refl
moved_count sizes m (searches.LoadHint buffer) values fits at knows = refl
moved_count sizes m (searches.TakeVictim buffer victim) values fits at knows = refl
moved_count sizes m (searches.SetHint buffer) values fits at knows = refl
moved_count sizes m (Found buffer) values fits at knows = refl
moved_count sizes m (NotFound given) values fits at knows = refl
