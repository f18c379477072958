-- The names of files have neither a space nor a line feed.
use Rattle.std.proofs.Common.{◌≡◌, ◌⊎◌, ◌+◌, ◌<◌, ◌==◌, ◌&&◌, ◌||◌, ℕ, zero, suc, Bool, true, false, cond, List, [], ◌∷◌, not, nat_eq, nat_le, length, filter, get_or, slice_index, refl, sym, ap, subst, ◌∙◌, arith, eq-eqb, true≢false}
use Rattle.std.specs.Prelude.{All}
use Rattle.std.specs.List.{list_all, list_any, position_or_len}
use lib.Pointwise.{pointwise}
use Rattle.std.proofs.lemmas.Bool.{cases_Bool, cond-true}
use Rattle.std.proofs.lemmas.List.Folds.{list_any-append}
use Rattle.std.proofs.lemmas.List.Elements.{All-cons, All-head, All-tail, All-map, All-weaker}
use Rattle.std.proofs.lemmas.List.Sums.{AllPass-from_list_all}
use Rattle.std.proofs.lemmas.List.{get_or_default}
use Rattle.nv_plain.specs.Images.{Image, header_of}
use Rattle.nv_plain.specs.Layouts.{Layout, mount_layout, mount_version}
use Rattle.nv_plain.proofs.OwnLayouts.{layout_is}
use Rattle.nv_header.specs.Heads.{IsHead, first_names}
use Rattle.nv_open.specs.Unopened.{names_in}
use Rattle.nv_plain.specs.Names.{is_name, is_name_byte}
use Rattle.nv_header.specs.FileNames.{AreFileNames}
use Rattle.nv_open.specs.Adding.{all_names, is_known}
use Rattle.nv_trace.specs.Shape.{IsWellFormed}
use Rattle.nv_trace.specs.Traced.{Traced}
use Rattle.nv_runner.specs.Faithful.{descriptors_in, named, placed_in}
use Rattle.nv_trace.specs.Said.{said_place}
use Rattle.nv_top.specs.Readings.{IsPlainByte, HavePlainNames}

second : (a b : Bool) → (a && b) ≡ true → b ≡ true
second true b e = e
second false b e = cc

plain_byte : (byte : ℕ) → is_name_byte byte ≡ true → IsPlainByte byte
plain_byte byte may = (
  λ space. let never : is_name_byte 32 ≡ true = subst (λ b. is_name_byte b ≡ true) space may in cc,
  λ feed. let never : is_name_byte 10 ≡ true = subst (λ b. is_name_byte b ≡ true) feed may in cc,
)

plain_name : (most : ℕ) (name : List ℕ) → is_name most name ≡ true → All IsPlainByte name
plain_name most name named k d inside =
    plain_byte (get_or name k d) (AllPass-from_list_all is_name_byte name
    (second (nat_le 1 (length name) && nat_le (length name) most && not (slice_index name 0 == 46)) (list_all is_name_byte name) named) k d inside)

-- the names of a region's files are allowed
pub each_allowed : (layout : Layout) (names : List (List ℕ)) → AreFileNames layout names → All (λ name. is_name layout.name_limit name ≡ true) names
each_allowed layout names are k d inside =
    let May : List ℕ → Type 0 = λ name. is_name layout.name_limit name ≡ true in
    subst May (get_or_default names k [] d inside) (are.allowed k inside)

-- the names that the header of a mount's version says
pub mount_names : (image : Image) → IsHead mount_layout mount_layout.header_lines image → names_in image ≡ first_names mount_layout image (header_of image).files
mount_names image readable = ap (λ (layout : Layout). first_names layout image (header_of image).files) (layout_is mount_version image readable.fields.version_is)

-- files of names that are allowed have plain names
pub names_plain : (most : ℕ) (names contents : List (List ℕ)) → All (λ name. is_name most name ≡ true) names → HavePlainNames (named names (record { contents = contents }))
names_plain most [] contents allowed = λ k d inside. absurd (omega arith)
names_plain most (name ∷ names) [] allowed = λ k d inside. absurd (omega arith)
names_plain most (name ∷ names) (bytes ∷ contents) allowed =
    All-cons (λ file. All IsPlainByte file.name) (record { name = name; bytes = bytes }) (named names (record { contents = contents }))
    (plain_name most name (All-head (λ name. is_name most name ≡ true) name names allowed))
    (names_plain most names contents (All-tail (λ name. is_name most name ≡ true) name names allowed))

-- each descriptor's file is one of a region that has the names of the trace
pub descriptors_known : (names : List (List ℕ)) (trace : Traced) → IsWellFormed trace → All (λ name. said_place name names < length names) trace.names
    → All (λ descriptor. descriptor.file < length names) (descriptors_in names trace)
descriptors_known names trace well_formed known =
    All-map (λ descriptor. descriptor.file < length names) (placed_in names trace) trace.descriptors
    (All-weaker (λ descriptor. descriptor.file < length trace.names) (λ descriptor. (placed_in names trace descriptor).file < length names)
    (λ descriptor inside. known descriptor.file [] inside) trace.descriptors well_formed.files)

-- ---- the names that a trace wants are there

found_at : {X : Type 0} (test : X → Bool) (xs : List X) (here : Bool) → (list_any test xs ≡ true → position_or_len test xs < length xs) → (here || list_any test xs) ≡ true
    → cond (not here) (1 + position_or_len test xs) 0 < 1 + length xs
found_at test xs true later any = omega arith
found_at test xs false later any = omega (arith, later any)

found : {X : Type 0} (test : X → Bool) (xs : List X) → list_any test xs ≡ true → position_or_len test xs < length xs
found test [] any = absurd (true≢false (sym any))
found test (x ∷ xs) any = omega (arith, found_at test xs (test x) (found test xs) any)

same_name : (name : List ℕ) → pointwise nat_eq name name ≡ true
same_name [] = refl
same_name (byte ∷ name) = both_true (nat_eq byte byte) (pointwise nat_eq name name) (eq-eqb byte byte refl) (same_name name)
  where
    both_true : (a b : Bool) → a ≡ true → b ≡ true → (a && b) ≡ true
    both_true true b e f = f
    both_true false b e f = cc

either_true : (a b : Bool) → b ≡ true → (a || b) ≡ true
either_true true b e = refl
either_true false b e = e

any_kept : {X : Type 0} (keep test : X → Bool) (xs : List X) (k : ℕ) (d : X) → k < length xs → keep (get_or xs k d) ≡ true → test (get_or xs k d) ≡ true → list_any test (filter keep xs) ≡ true
any_kept keep test [] k d inside kept passes = absurd (omega arith)
any_kept {X} keep test (x ∷ xs) zero d inside kept passes =
    ap (λ (these : List X). list_any test these) (cond-true (keep x) (x ∷ filter keep xs) (filter keep xs) kept) ∙ ap (λ here. here || list_any test (filter keep xs)) passes
any_kept keep test (x ∷ xs) (suc k) d inside kept passes = either_kept (keep x) (any_kept keep test xs k d (omega arith) kept passes)
  where
    either_kept : (kept : Bool) → list_any test (filter keep xs) ≡ true → list_any test (cond kept (x ∷ filter keep xs) (filter keep xs)) ≡ true
    either_kept true any = either_true (test x) (list_any test (filter keep xs)) any
    either_kept false any = any

either_side : (a b : Bool) → (a ≡ true) ⊎ (a ≡ false) → (a ≡ false → b ≡ true) → (a || b) ≡ true
either_side true b which other = refl
either_side false b which other = other refl

-- each name that is wanted is one of all
pub wanted_known : (known wanted : List (List ℕ)) → All (λ name. said_place name (all_names known wanted) < length (all_names known wanted)) wanted
wanted_known known wanted k d inside =
    let name = get_or wanted k d in
    let test : List ℕ → Bool = λ one. pointwise nat_eq one name in
    let keep : List ℕ → Bool = λ name. not (is_known known name) in
    found test (all_names known wanted)
    (list_any-append test known (filter keep wanted)
    ∙ either_side (list_any test known) (list_any test (filter keep wanted)) (cases_Bool (list_any test known))
    (λ none. any_kept keep test wanted k d inside (ap not none) (same_name name)))
