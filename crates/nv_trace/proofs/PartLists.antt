-- What the parts of a list spell, one after another.
use Rattle.std.proofs.Common.{◌≡◌, ◌+◌, ◌<◌, ℕ, zero, suc, List, [], ◌∷◌, ◌++◌, length, get_or, map, take, Result, Ok, Err, refl, ap, ◌∙◌, arith}
use Rattle.std.proofs.Math.ListN.{get_or-map}
use Rattle.std.proofs.lemmas.List.{length-map, take_more}
use Rattle.nv_trace.specs.Grammar.{and_then, each_of}
use Rattle.nv_trace.specs.Lines.{parts_between}
use Rattle.nv_trace.specs.Said.{IsUnsaid}
use Rattle.nv_trace.specs.declared.bad_line.Why.{Why}
use Rattle.nv_trace.specs.declared.bad_line.Unsaid.{Unsaid}
use Rattle.nv_trace.specs.declared.bad_line.Unsaid.TheVariants as unsaid
use Rattle.nv_trace.proofs.Parts.{parts_some}

module _ {A : Type 0} where
  -- one before others
  abbrev onto : Result A Why → Result (List A) Why → Result (List A) Why
  onto first rest = and_then (λ first. and_then (λ rest. Ok (first ∷ rest)) rest) first

  ok_is : (told : Result (List A) Why) (xs ys : List A) → told ≡ Ok xs → told ≡ Ok ys → xs ≡ ys
  ok_is told xs ys one two = cc

  onto_more : (first : Result A Why) (some all : Result (List A) Why) (values more : List A) → onto first some ≡ Ok values
      → ((values : List A) → some ≡ Ok values → all ≡ Ok (values ++ more)) → onto first all ≡ Ok (values ++ more)
  onto_more (Err why) some all values more is up = cc
  onto_more (Ok first) (Err why) all values more is up = cc
  onto_more (Ok first) (Ok rest) all values more is up =
      ap (onto (Ok first)) (up rest refl) ∙ ap (λ (values : List A). Ok (values ++ more)) (ok_is (Ok (first ∷ rest)) (first ∷ rest) values refl is)

  onto_bad : (first : Result A Why) (some all : Result (List A) Why) (values : List A) (why : Why) → onto first some ≡ Ok values
      → ((values : List A) → some ≡ Ok values → all ≡ Err why) → onto first all ≡ Err why
  onto_bad (Err because) some all values why is up = cc
  onto_bad (Ok first) (Err because) all values why is up = cc
  onto_bad (Ok first) (Ok rest) all values why is up = ap (onto (Ok first)) (up rest refl)

  -- one more part
  one_more : (read : List ℕ → Result A Why) (parts : List (List ℕ)) (part : List ℕ) (values : List A) (value : A) → each_of read parts ≡ Ok values → read part ≡ Ok value
      → each_of read (parts ++ part ∷ []) ≡ Ok (values ++ value ∷ [])
  unfolding each_of
  one_more read [] part values value are is = ap (λ value. onto value (Ok [])) is ∙ ap (λ (values : List A). Ok (values ++ value ∷ [])) (ok_is (Ok []) [] values refl are)
  one_more read (first ∷ parts) part values value are is =
      onto_more (read first) (each_of read parts) (each_of read (parts ++ part ∷ [])) values (value ∷ []) are (λ values are. one_more read parts part values value are is)

  pub next_spelled : {X : Type 0} (read : List ℕ → Result A Why) (f : X → List ℕ) (parts : List X) (i : ℕ) (d : X) (values : List A) (value : A) → i < length parts → each_of read (take i (map f parts)) ≡ Ok values
      → read (f (get_or parts i d)) ≡ Ok value → each_of read (take (i + 1) (map f parts)) ≡ Ok (values ++ value ∷ [])
  next_spelled read f parts i d values value inside are is =
      ap (each_of read) (take_more (map f parts) i (f d) (omega (arith, length-map parts f, inside)))
      ∙ one_more read (take i (map f parts)) (get_or (map f parts) i (f d)) values value are (ap read (get_or-map f parts i d) ∙ is)

  -- the first part that spells nothing
  bad_at : (read : List ℕ → Result A Why) (parts : List (List ℕ)) (i : ℕ) (d : List ℕ) (values : List A) (why : Why) → i < length parts → each_of read (take i parts) ≡ Ok values
      → read (get_or parts i d) ≡ Err why → each_of read parts ≡ Err why
  unfolding each_of
  bad_at read [] i d values why inside are is = absurd (omega arith)
  bad_at read (part ∷ parts) zero d values why inside are is = ap (λ first. onto first (each_of read parts)) is
  bad_at read (part ∷ parts) (suc i) d values why inside are is =
      onto_bad (read part) (each_of read (take i parts)) (each_of read parts) values why are (λ values are. bad_at read parts i d values why (omega arith) are is)

  pub none_spelled : {X : Type 0} (read : List ℕ → Result A Why) (f : X → List ℕ) (parts : List X) (i : ℕ) (d : X) (values : List A) (because : Unsaid) → i < length parts → each_of read (take i (map f parts)) ≡ Ok values
      → IsUnsaid (read (f (get_or parts i d))) because → IsUnsaid (each_of read (map f parts)) because
  none_spelled read f parts i d values (unsaid.Bad why) inside are is =
      bad_at read (map f parts) i (f d) values why (omega (arith, length-map parts f, inside)) are (ap read (get_or-map f parts i d) ∙ is)
  none_spelled read f parts i d values unsaid.NoMemory inside are is = tt

-- a list has one part at least
pub some_part : (separator : ℕ) (bytes : List ℕ) → 0 < length (parts_between separator bytes)
some_part separator bytes = let first = parts_some separator bytes in omega (arith, ap length first.whole)
