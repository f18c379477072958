-- Stores after a device call of a cleaner: what they read as differs from before only where the piece that is written goes.
use Rattle.std.proofs.Common.{◌≡◌, ◌≢◌, ◌⊎◌, ℕ, ◌+◌, ◌-◌, ◌<◌, ◌≤◌, List, [], ◌∷◌, length, get_or, inl, inr, refl, sym, ap, subst, ◌∙◌, arith}
use Rattle.std.proofs.lemmas.Bool.{cases_lt, cases_eq}
use Rattle.std.proofs.lemmas.List.{get_or_past, get_or-take, length-take}
use Rattle.std.proofs.lemmas.List.FromFn.{get_or-map-range_with_len, length-map-range_with_len}
use Rattle.nv_plain.specs.declared.call.FileCall.{FileCall}
use Rattle.nv_plain.specs.Files.{contents_of, overwritten}
use Rattle.nv_store.specs.Store.{Store}
use Rattle.nv_store.specs.Torn.{IsTorn}
use Rattle.nv_core.specs.state.Words.{Sizes, STORE}
use Rattle.nv_core.specs.steps.Order.{Values}
use Rattle.nv_core.specs.log.LivePieces.{store_bytes, store_files}
use Rattle.nv_core.specs.content.PlainLaws.{PlainLaws}
use Rattle.nv_core.proofs.crash.CommutingLaws.{in_or_out}
use Rattle.nv_core.proofs.crash.CoverLaws.{IsTouched, EndAlike, Agree}

-- ---- one store

-- Bytes that differ from others only in a range, and that end where these do, or end in the range or behind it.
pub record DiffersIn (at count : ℕ) (old new : List ℕ) : Type 0 where
  pub outside : (i : ℕ) → (i < at) ⊎ (at + count ≤ i) → get_or new i 0 ≡ get_or old i 0
  pub ends : (length new ≡ length old) ⊎ ((length old ≤ at + count) × (length new ≤ at + count) × (0 < count))

pub same_differs : (at count : ℕ) (bytes : List ℕ) → DiffersIn at count bytes bytes
same_differs at count bytes = record { outside = λ i out. refl; ends = inl refl }

pub write_differs : (plain : PlainLaws) (at : ℕ) (bytes old : List ℕ) → DiffersIn at (length bytes) old (overwritten old at bytes)
write_differs plain at bytes old = record { outside = λ i out. plain.outside old bytes at i out; ends = ends bytes refl }
  where
    ends : (some : List ℕ) → bytes ≡ some → (length (overwritten old at some) ≡ length old) ⊎ ((length old ≤ at + length bytes) × (length (overwritten old at some) ≤ at + length bytes) × (0 < length bytes))
    ends [] is = inl refl
    ends (first ∷ rest) is =
        let r = plain.reach old (first ∷ rest) at (omega arith) in
        let l : length bytes ≡ length (first ∷ rest) = ap length is in
        elim (cases_lt (length old) (at + length (first ∷ rest))) [
          | inl less ↦ inr (omega (arith, l, less), omega (arith, r, l, less), omega (arith, l))
          | inr more ↦ inl (omega (arith, r, more))
        ]

pub torn_differs : (plain : PlainLaws) (at count : ℕ) (old new : Store) → IsTorn at count old new → DiffersIn at count old.seen new.seen
torn_differs plain at count old new torn = record {
  outside = λ i out. elim (cases_lt i (length new.seen)) [
    | inl less ↦ ap (λ b. get_or b i 0) torn.seen ∙ get_or-take (length new.seen) (overwritten old.seen at torn.bytes) i 0 less
        ∙ plain.outside old.seen torn.bytes at i (subst (λ n. (i < at) ⊎ (at + n ≤ i)) (sym torn.many) out)
    | inr past ↦ get_or_past new.seen i 0 past ∙ sym (get_or_past old.seen i 0 (let l = torn.no_shorter in omega (arith, l, past)))
  ];
  ends =
      let t = ap length torn.seen in
      let l = length-take (length new.seen) (overwritten old.seen at torn.bytes) in
      let d = write_differs plain at torn.bytes old.seen in
      let n = torn.no_shorter in
      let m = torn.many in
      elim d.ends [
        | inl e ↦ inl (omega (arith, t, l, e, n))
        | inr more ↦ let a = more.0 in let b = more.1 in let c = more.2 in inr (omega (arith, a, m), omega (arith, b, m, t, l), omega (arith, c, m))
      ];
}

-- ---- all of them

-- what the stores read as, store by store
pub contents_is : (sizes : Sizes) (values : Values) (file : ℕ) → file < sizes.files → contents_of (store_files sizes values) file ≡ store_bytes (values (STORE file))
contents_is sizes values file low = get_or-map-range_with_len (λ f. store_bytes (values (STORE f))) 0 sizes.files file file [] low (omega arith)

pub contents_past : (sizes : Sizes) (values : Values) (file : ℕ) → sizes.files ≤ file → contents_of (store_files sizes values) file ≡ []
contents_past sizes values file past = get_or_past (store_files sizes values).contents file [] (let l = length-map-range_with_len (λ f. store_bytes (values (STORE f))) 0 sizes.files in omega (arith, l, past))

-- Stores of which one differs only in a range, all of whose bytes some calls write, agree but where these calls write.
pub stores_agree : (sizes : Sizes) (old new : Values) (calls : List FileCall) (changed at count : ℕ) → ((file : ℕ) → file ≢ changed → store_bytes (new (STORE file)) ≡ store_bytes (old (STORE file)))
    → DiffersIn at count (store_bytes (old (STORE changed))) (store_bytes (new (STORE changed))) → ((i : ℕ) → at ≤ i → i < at + count → IsTouched calls changed i)
    → Agree calls (store_files sizes new) (store_files sizes old)
stores_agree sizes old new calls changed at count others differs touched = record {
  count = length-map-range_with_len (λ f. store_bytes (new (STORE f))) 0 sizes.files ∙ sym (length-map-range_with_len (λ f. store_bytes (old (STORE f))) 0 sizes.files);
  bytes = λ file i. elim (cases_lt file sizes.files) [
    | inr past ↦ inl (ap (λ b. get_or b i 0) (contents_past sizes new file past ∙ sym (contents_past sizes old file past)))
    | inl low ↦ elim (cases_eq file changed) [
      | inr ne ↦ inl (ap (λ b. get_or b i 0) (contents_is sizes new file low ∙ others file ne ∙ sym (contents_is sizes old file low)))
      | inl e ↦ subst (λ f. (get_or (contents_of (store_files sizes new) f) i 0 ≡ get_or (contents_of (store_files sizes old) f) i 0) ⊎ IsTouched calls f i) (sym e)
          (elim (in_or_out at count i) [
            | inl inside ↦ inr (touched i inside.0 inside.1)
            | inr out ↦ inl (ap (λ b. get_or b i 0) (contents_is sizes new changed (subst (λ f. f < sizes.files) e low)) ∙ differs.outside i out ∙ sym (ap (λ b. get_or b i 0) (contents_is sizes old changed (subst (λ f. f < sizes.files) e low))))
          ])
    ]
  ];
  ends = λ file. elim (cases_lt file sizes.files) [
    | inr past ↦ inl (ap length (contents_past sizes new file past ∙ sym (contents_past sizes old file past)))
    | inl low ↦ elim (cases_eq file changed) [
      | inr ne ↦ inl (ap length (contents_is sizes new file low ∙ others file ne ∙ sym (contents_is sizes old file low)))
      | inl e ↦ subst (λ f. EndAlike calls f (length (contents_of (store_files sizes new) f)) (length (contents_of (store_files sizes old) f))) (sym e) (end (subst (λ f. f < sizes.files) e low))
    ]
  ];
}
  where
    end : changed < sizes.files → EndAlike calls changed (length (contents_of (store_files sizes new) changed)) (length (contents_of (store_files sizes old) changed))
    end low =
        let a = ap length (contents_is sizes new changed low) in
        let b = ap length (contents_is sizes old changed low) in
        elim differs.ends [
          | inl e ↦ inl (a ∙ e ∙ sym b)
          | inr more ↦ let x = more.0 in let y = more.1 in let z = more.2 in
              inr (at + count - 1, touched (at + count - 1) (omega (arith, z)) (omega (arith, z)), omega (arith, a, y, z), omega (arith, b, x, z))
        ]
