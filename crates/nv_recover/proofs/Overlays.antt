-- Files, overwritten by the entries of a log, one after another and then once more.
use Rattle.std.proofs.Common.{◌≡◌, ◌≢◌, ℕ, ◌<◌, ◌≤◌, inl, inr, List, [], ◌∷◌, ◌++◌, length, fold, sym, ap, ◌∙◌, arith}
use Rattle.std.proofs.lemmas.Bool.{cases_eq, cases_lt}
use Rattle.std.proofs.lemmas.List.{ext_get_or, length-set, get_or-set_same, get_or-set_other, set_past}
use Rattle.nv_plain.specs.Files.{Files, contents_of, with_contents, overwritten}
use Rattle.nv_plain.specs.Images.{Image, entry_at, data_of, slot_part}
use Rattle.nv_plain.specs.Recovered.{with_entry}
use Rattle.nv_store.proofs.Overwrites.{same_after_more}

-- ---- files with other contents

same_files : (a b : Files) → a.contents ≡ b.contents → a ≡ b
same_files a b same = ap (λ contents. let files : Files = record { contents = contents } in files) same

contents_same : (files : Files) (file : ℕ) (bytes : List ℕ) → file < length files.contents → contents_of (with_contents files file bytes) file ≡ bytes
contents_same files file bytes inside = get_or-set_same files.contents file bytes [] inside

contents_other : (files : Files) (file other : ℕ) (bytes : List ℕ) → other ≢ file → contents_of (with_contents files file bytes) other ≡ contents_of files other
contents_other files file other bytes differs = get_or-set_other files.contents file other bytes [] differs

contents_past : (files : Files) (file : ℕ) (bytes : List ℕ) → length files.contents ≤ file → with_contents files file bytes ≡ files
contents_past files file bytes past = same_files (with_contents files file bytes) files (set_past files.contents file bytes past)

-- two lots of files are the same where each file is
ext_files : (a b : Files) → length a.contents ≡ length b.contents → ((file : ℕ) → file < length a.contents → contents_of a file ≡ contents_of b file) → a ≡ b
ext_files a b many each = same_files a b (ext_get_or [] a.contents b.contents many each)

-- ---- a write to one file

-- the files after a write
written : ℕ → ℕ → List ℕ → Files → Files
written file at bytes files = with_contents files file (overwritten (contents_of files file) at bytes)

-- Files that a write makes the same it makes the same also after another write.
same_written : (file at also_file also_at : ℕ) (bytes more : List ℕ) (a b : Files) → written file at bytes a ≡ written file at bytes b
    → written file at bytes (written also_file also_at more a) ≡ written file at bytes (written also_file also_at more b)
unfolding written
same_written file at also_file also_at bytes more a b same =
    let many : length a.contents ≡ length b.contents =
    sym (length-set a.contents file _) ∙ ap (λ (files : Files). length files.contents) same ∙ length-set b.contents file _ in
    elim (cases_lt file (length a.contents)) [
      | inr past ↦
          let alike : a ≡ b =
          sym (contents_past a file _ past) ∙ same ∙ contents_past b file _ (omega arith) in
          ap (λ files. written file at bytes (written also_file also_at more files)) alike
      | inl inside ↦
          let others = λ (j : ℕ) (differs : j ≢ file).
          sym (contents_other a file j _ differs) ∙ ap (λ files. contents_of files j) same ∙ contents_other b file j _ differs in
          let here : overwritten (contents_of a file) at bytes ≡ overwritten (contents_of b file) at bytes =
          sym (contents_same a file _ inside) ∙ ap (λ files. contents_of files file) same ∙ contents_same b file _ (omega arith) in
          let after_a = written also_file also_at more a in
          let after_b = written also_file also_at more b in
          let long_a : length after_a.contents ≡ length a.contents = length-set a.contents also_file _ in
          let long_b : length after_b.contents ≡ length b.contents = length-set b.contents also_file _ in
          ext_files (written file at bytes after_a) (written file at bytes after_b)
          (length-set after_a.contents file _ ∙ long_a ∙ many ∙ sym long_b ∙ sym (length-set after_b.contents file _))
          (λ j within. elim (cases_eq j file) [
            | inl at_file ↦
                let inside_a : file < length after_a.contents = omega arith in
                let inside_b : file < length after_b.contents = omega arith in
                ap (contents_of (written file at bytes after_a)) at_file
                ∙ contents_same after_a file _ inside_a
                ∙ elim (cases_eq file also_file) [
                  | inl both ↦
                      let also_a : also_file < length a.contents = omega arith in
                      let also_b : also_file < length b.contents = omega arith in
                      ap (λ k. overwritten (contents_of after_a k) at bytes) both
                      ∙ ap (λ these. overwritten these at bytes) (contents_same a also_file _ also_a)
                      ∙ same_after_more (contents_of a also_file) (contents_of b also_file) bytes more at also_at
                      (ap (λ k. overwritten (contents_of a k) at bytes) (sym both) ∙ here ∙ ap (λ k. overwritten (contents_of b k) at bytes) both)
                      ∙ sym (ap (λ these. overwritten these at bytes) (contents_same b also_file _ also_b))
                      ∙ ap (λ k. overwritten (contents_of after_b k) at bytes) (sym both)
                  | inr apart ↦
                      ap (λ these. overwritten these at bytes) (contents_other a also_file file _ apart)
                      ∙ here
                      ∙ sym (ap (λ these. overwritten these at bytes) (contents_other b also_file file _ apart))
                ]
                ∙ sym (contents_same after_b file _ inside_b)
                ∙ ap (contents_of (written file at bytes after_b)) (sym at_file)
            | inr off_file ↦
                contents_other after_a file j _ off_file
                ∙ elim (cases_eq j also_file) [
                  | inl at_also ↦
                      elim (cases_lt also_file (length a.contents)) [
                        | inl also_inside ↦
                            let also_b : also_file < length b.contents = omega arith in
                            let off : also_file ≢ file = λ same_file. off_file (at_also ∙ same_file) in
                            ap (contents_of after_a) at_also
                            ∙ contents_same a also_file _ also_inside
                            ∙ ap (λ these. overwritten these also_at more) (others also_file off)
                            ∙ sym (contents_same b also_file _ also_b)
                            ∙ ap (contents_of after_b) (sym at_also)
                        | inr also_past ↦
                            ap (λ files. contents_of files j) (contents_past a also_file _ also_past)
                            ∙ others j off_file
                            ∙ ap (λ files. contents_of files j) (sym (contents_past b also_file _ (omega arith)))
                      ]
                  | inr off_also ↦
                      contents_other a also_file j _ off_also ∙ others j off_file ∙ sym (contents_other b also_file j _ off_also)
                ]
                ∙ sym (contents_other after_b file j _ off_file)
          ])
    ]

-- ---- the entries of a log

-- files that one entry makes the same it makes the same after another entry too
same_after_entry : (image : Image) (number other : ℕ) (a b : Files) → with_entry image a number ≡ with_entry image b number → with_entry image (with_entry image a other) number ≡ with_entry image (with_entry image b other) number
unfolding written
same_after_entry image number other a b same =
    let entry = entry_at image number in
    let also = entry_at image other in
    same_written entry.file entry.at also.file also.at (data_of (slot_part image number) entry.size) (data_of (slot_part image other) also.size) a b same

-- Files that one entry makes the same all entries make the same.
pub same_after_all : (image : Image) (before : List ℕ) (number : ℕ) (after : List ℕ) (a b : Files) → with_entry image a number ≡ with_entry image b number → fold (with_entry image) a (before ++ number ∷ after) ≡ fold (with_entry image) b (before ++ number ∷ after)
same_after_all image [] number after a b same = ap (λ files. fold (with_entry image) files after) same
same_after_all image (first ∷ before) number after a b same =
    same_after_all image before number after (with_entry image a first) (with_entry image b first) (same_after_entry image number first a b same)
