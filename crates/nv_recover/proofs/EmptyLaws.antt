-- Words that are cleared and a tail that moves: what images then say of the log.
use Rattle.std.proofs.Common.{◌≡◌, ◌≢◌, ◌⊎◌, ◌↔◌, inl, inr, ℕ, ◌+◌, ◌-◌, ◌*◌, ◌/◌, ◌%◌, ◌^◌, ◌<◌, ◌≤◌, List, take, map, sym, ap, ◌∙◌, subst, arith}
use Rattle.std.specs.Prelude.{IsTrue}
use Rattle.std.specs.Int.{to_le_bytes, w64}
use Rattle.std.specs.List.{flat_map, range_with_len}
use Rattle.nv_plain.specs.Images.{Image, header_of, entry_at, name_of}
use Rattle.nv_plain.specs.Layouts.{Layout, layout_of}
use Rattle.nv_plain.specs.declared.limits.Version.{Version}
use Rattle.nv_plain.specs.Recovered.{IsCommitted}
use Rattle.nv_pmem.specs.Limits.{IsPageSize, IsEntryCount}
use Rattle.nv_header.specs.Heads.{IsGoodName, first_names, length_of, record_line, room_of_name, is_record}
use Rattle.nv_header.specs.Regions.{ReadsAs, HasEmptyLog}
use Rattle.nv_header.proofs.VersionLaws.{record_line-behind}
use Rattle.nv_recover.specs.Alike.{SayTheSame}
use Rattle.nv_recover.specs.Emptying.{IsTrimmed, HasNoneAbove, CommitsNoneFrom}

-- ---- words that are cleared

-- images of the same words say the same
pub same_words : (image other : Image) → ((part line word : ℕ) → other part line word ≡ image part line word) → SayTheSame image other
same_words image other same = record {
  header = same 0;
  words = λ part line word some apart. same part line word;
  commits = λ number low high.
      let is : (entry_at other number).commit ≡ (entry_at image number).commit =
      ap (λ entries. other (1 + number % entries) 0 0) (same 0 0 3) ∙ same (1 + number % (header_of image).entries) 0 0 in
      (λ commit. sym is ∙ commit, λ commit. is ∙ commit);
}

-- a word past the window commits no number in it, and nor does 0
trimmed_commits : (most number was now : ℕ) → number < most → (now ≡ was) ⊎ ((now ≡ 0) × (most < was)) → (now ≡ number + 1) ↔ (was ≡ number + 1)
trimmed_commits most number was now below (inl same) = (λ commit. sym same ∙ commit, λ commit. same ∙ commit)
trimmed_commits most number was now below (inr cleared) =
    (λ commit. absurd (omega (arith, commit, cleared.0)), λ commit. absurd (omega (arith, commit, cleared.1)))

-- An image of which words past the window are cleared says the same of the log.
pub same_trimmed : (image other : Image) (most : ℕ) → (header_of image).tail + (header_of image).entries ≤ most → ((line word : ℕ) → other 0 line word ≡ image 0 line word)
    → ((part : ℕ) → 1 ≤ part → IsTrimmed most (image part) (other part)) → SayTheSame image other
same_trimmed image other most window header trimmed = record {
  header = header;
  words = λ part line word some. (trimmed part some).others line word;
  commits = λ number low high.
      let slot = 1 + number % (header_of image).entries in
      let At : ℕ → Type 0 = λ commit. (commit ≡ number + 1) ↔ ((entry_at image number).commit ≡ number + 1) in
      subst At (sym (ap (λ entries. other (1 + number % entries) 0 0) (header 0 3)))
      (trimmed_commits most number (image slot 0 0) (other slot 0 0) (omega arith) (trimmed slot (omega arith)).commit);
}

-- ---- images that say the same

pub same_same : (first between last : Image) → SayTheSame first between → SayTheSame between last → SayTheSame first last
same_same first between last a b = record {
  header = λ line word. b.header line word ∙ a.header line word;
  words = λ part line word some apart. b.words part line word some apart ∙ a.words part line word some apart;
  commits = λ number low high.
      let one = a.commits number low high in
      let two = b.commits number (omega (arith, a.header 1 0)) (omega (arith, a.header 1 0, a.header 0 3)) in
      (λ commit. one.0 (two.0 commit), λ commit. two.1 (one.1 commit));
}

pub none_too : (image other : Image) (next : ℕ) → SayTheSame image other → CommitsNoneFrom next image → CommitsNoneFrom next other
none_too image other next same none number from commits =
    let low : (header_of image).tail ≤ number = omega (arith, commits.from_tail, same.header 1 0) in
    let high : number < (header_of image).tail + (header_of image).entries = omega (arith, commits.in_window, same.header 1 0, same.header 0 3) in
    none number from (record { from_tail = low; in_window = high; commit = (same.commits number low high).0 commits.commit })

-- ---- a tail that moves

same_name : (version : Version) (image other : Image) (i : ℕ) → ((line word : ℕ) → 2 ≤ line → other 0 line word ≡ image 0 line word) → name_of (layout_of version) other i ≡ name_of (layout_of version) image i
same_name version image other i same =
    let layout = layout_of version in
    let line = record_line layout i in
    let words = range_with_len 1 (layout.lines_per_name * 8 - 1) in
    let behind = record_line-behind version i in
    let Bytes = λ (these : Image) (k : ℕ). to_le_bytes w64 (these 0 (line + k / 8) (k % 8)) in
    ap (λ size. take size (flat_map (Bytes other) words)) (same line 0 behind)
    ∙ ap (λ bytes. take (image 0 line 0) (flat_map bytes words))
    (λ at k. to_le_bytes w64 (same (line + k / 8) (k % 8) (omega (arith, behind)) at))

same_room : (version : Version) (image other : Image) (i : ℕ) → ((line word : ℕ) → 2 ≤ line → other 0 line word ≡ image 0 line word) → room_of_name (layout_of version) other i ≡ room_of_name (layout_of version) image i
same_room version image other i same =
    let layout = layout_of version in
    let behind = record_line-behind version i in
    ap (λ bytes. flat_map bytes (range_with_len 1 (layout.lines_per_name * 8 - 1)))
    (λ at k. to_le_bytes w64 (same (record_line layout i + k / 8) (k % 8) (omega (arith, behind)) at))

good_too : (version : Version) (image other : Image) (i : ℕ) → ((line word : ℕ) → 2 ≤ line → other 0 line word ≡ image 0 line word) → IsGoodName (layout_of version) image i → IsGoodName (layout_of version) other i
good_too version image other i same good =
    let layout = layout_of version in
    let Room : List ℕ → Type 0 = λ room. IsTrue (is_record layout.name_limit (length_of layout image i) room) in
    let Length : ℕ → Type 0 = λ size. IsTrue (is_record layout.name_limit size (room_of_name layout other i)) in
    record {
      whole = subst Length (sym (same (record_line layout i) 0 (record_line-behind version i))) (subst Room (sym (same_room version image other i same)) good.whole);
      new = λ j earlier equal. good.new j earlier (sym (same_name version image other j same) ∙ equal ∙ same_name version image other i same);
    }

-- The header reads the same, with another tail.
pub reads_moved : (version : Version) (page entries : ℕ) (names : List (List ℕ)) (tail next : ℕ) (image other : Image) → ((line word : ℕ) → (line ≢ 1) ⊎ (word ≢ 0) → other 0 line word ≡ image 0 line word) → other 0 1 0 ≡ next → next ≤ 2 ^ 60
    → ReadsAs (layout_of version) page entries names tail image → ReadsAs (layout_of version) page entries names next other
unfolding first_names
reads_moved version page entries names tail next image other same moved small reads =
    let Page : ℕ → Type 0 = IsPageSize in
    let Entries : ℕ → Type 0 = IsEntryCount in
    let fields = reads.readable.fields in
    let behind : (line word : ℕ) → 2 ≤ line → other 0 line word ≡ image 0 line word = λ line word past. same line word (inl (omega arith)) in
    let first = λ (word : ℕ). same 0 word (inl (omega arith)) in
    record {
      readable = record {
        long_enough = reads.readable.long_enough;
        fields = record {
          magic = first 0 ∙ fields.magic;
          version_is = first 1 ∙ fields.version_is;
          page = subst Page (sym (first 2)) fields.page;
          entries = subst Entries (sym (first 3)) fields.entries;
          files = omega (arith, first 4, fields.files);
          tail = omega (arith, moved, small);
        };
        names = λ i below. good_too version image other i behind (reads.readable.names i (omega (arith, first 4)));
      };
      page_is = first 2 ∙ reads.page_is;
      entries_is = first 3 ∙ reads.entries_is;
      names_are =
          ap (first_names (layout_of version) other) (first 4)
          ∙ ap (λ name. map name (range_with_len 0 (header_of image).files)) (λ at i. same_name version image other i behind at)
          ∙ reads.names_are;
      tail_is = moved;
    }

pub reads_too : (version : Version) (page entries : ℕ) (names : List (List ℕ)) (tail : ℕ) (image other : Image) → ((line word : ℕ) → other 0 line word ≡ image 0 line word) → ReadsAs (layout_of version) page entries names tail image → ReadsAs (layout_of version) page entries names tail other
reads_too version page entries names tail image other same reads =
    reads_moved version page entries names tail tail image other (λ line word apart. same line word) (same 1 0 ∙ reads.tail_is)
    (omega (arith, reads.tail_is, reads.readable.fields.tail)) reads

-- Where no number from the new tail on is committed, and no commit word is past the window of the old one, the log is empty.
pub moved_empty : (version : Version) (page entries : ℕ) (names : List (List ℕ)) (tail next : ℕ) (image other : Image) → ((line word : ℕ) → (line ≢ 1) ⊎ (word ≢ 0) → other 0 line word ≡ image 0 line word)
    → ((part line word : ℕ) → 1 ≤ part → other part line word ≡ image part line word) → other 0 1 0 ≡ next
    → tail ≤ next → next ≤ 2 ^ 60 → HasNoneAbove image → CommitsNoneFrom next image → ReadsAs (layout_of version) page entries names tail image → HasEmptyLog (layout_of version) page entries names next other
moved_empty version page entries names tail next image other header words moved low small above none reads = record {
  header = reads_moved version page entries names tail next image other header moved small reads;
  log = record {
    uncommitted = λ number from commit.
        let some : 2 ≤ entries = omega (arith, reads.entries_is, reads.readable.fields.entries.least) in
        let slot : 1 + number % entries ≤ entries = omega arith in
        let is : image (1 + number % entries) 0 0 ≡ number + 1 = sym (words (1 + number % entries) 0 0 (omega arith)) ∙ commit in
        let fits = above.low (1 + number % entries) (omega arith) (omega (arith, reads.entries_is)) in
        none number from (record {
          from_tail = omega (arith, reads.tail_is);
          in_window = omega (arith, fits, is);
          commit = ap (λ count. image (1 + number % count) 0 0) reads.entries_is ∙ is;
        });
  };
}

-- An empty log commits nothing.
pub empty_none : {layout : Layout} (page entries : ℕ) (names : List (List ℕ)) (next : ℕ) (image : Image) → HasEmptyLog layout page entries names next image → (number : ℕ) → ¬ IsCommitted image number
empty_none page entries names next image empty number commits =
    empty.log.uncommitted number (omega (arith, empty.header.tail_is, commits.from_tail))
    (ap (λ count. image (1 + number % count) 0 0) (sym empty.header.entries_is) ∙ commits.commit)
