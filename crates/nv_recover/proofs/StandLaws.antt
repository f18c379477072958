-- What the parts and stores stand for, at each moment of recovery.
use Rattle.std.proofs.Common.{◌≡◌, inl, inr, ℕ, ◌<◌, ◌≤◌, ◌^◌, List, [], length, map, slice_index_or, sym, ap, ◌∙◌, subst, arith}
use Rattle.std.proofs.lemmas.List.{length-map, get_or-map}
use Rattle.nv_plain.specs.Files.{Files}
use Rattle.nv_plain.specs.Images.{Image, header_of, layout_in}
use Rattle.nv_plain.specs.Layouts.{layout_of}
use Rattle.nv_plain.proofs.OwnLayouts.{layout_is, layout_same}
use Rattle.nv_plain.specs.declared.limits.Version.{Version}
use Rattle.nv_plain.specs.Recovered.{Fits, Recovered as All, recovered}
use Rattle.nv_pmem.specs.Part.{Part}
use Rattle.nv_pmem.specs.Rows.{RowTells, InEachRowImage, IsRowImage, row_words, AreQuiet}
use Rattle.nv_pmem.specs.Steps as lines
use Rattle.nv_pmem.proofs.ImageLaws.{quiet_image as quiet_line}
use Rattle.nv_pmem.proofs.RowLaws.{row_tells_any, row_tells_more, row_tells_both}
use Rattle.nv_store.specs.Steps.{StoreHistory, Sync, after_store_step}
use Rattle.nv_store.specs.Store.{Store, IsQuietStore}
use Rattle.nv_store.proofs.StoreLaws.{quiet_is_quiet}
use Rattle.nv_entry.specs.declared.bounds.Bounds.{Bounds}
use Rattle.nv_entry.specs.Checks.{SaysBounds}
use Rattle.nv_header.specs.Heads.{IsHead, first_names}
use Rattle.nv_header.specs.Regions.{ReadsAs, HasEmptyLog, HasNoneFrom}
use Rattle.nv_pmem.specs.RowStates.{AreNow, row_tells_at, row_tells_from}
use Rattle.nv_recover.specs.Alike.{SayTheSame}
use Rattle.nv_recover.specs.Applying.{AcrossTells, AcrossThroughout, StaysAlike}
use Rattle.nv_recover.specs.Changes.{Devices, DevicesTell, ThroughoutRow, ThroughoutDevices}
use Rattle.nv_recover.specs.Emptying.{CommitsNoneFrom, SaysTheSameOrEmpty}
use Rattle.nv_recover.specs.Groups.{AreGroups, leaders_of}
use Rattle.nv_recover.specs.Recovering.{HasFoundAll, HoldRecovered, StandThroughout, UnfitIsUnwritten, end_of}
use Rattle.nv_recover.specs.Standing.{AreStoreImages, AreQuietStores, HasEmptiedLog, HasSameLog, LeaveNoMore, ReadsAlike, RecoverAlike, StandsStill, TakesPlace, files_of}
use Rattle.nv_recover.specs.Telling.{AllTell}
use Rattle.nv_recover.specs.declared.group.Group.{Group}
use Rattle.nv_recover.specs.declared.recovering.Recovered.{Recovered}
use Rattle.nv_recover.proofs.AlikeLaws.{same_fits, same_recovered, empty_fits, empty_recovered}
use Rattle.nv_recover.proofs.ApplyLaws.{alike_none, quiet_image}
use Rattle.nv_recover.proofs.EmptyLaws.{same_words, reads_too, empty_none}
use Rattle.nv_recover.proofs.Ends.{ends}
use Rattle.nv_recover.proofs.Entries.{unwritten, quiet_alike}
use Rattle.nv_recover.proofs.Present.{are_now_same}
use Rattle.nv_recover.proofs.RowMoments.{across_last, across_still, across_throughout}
use Rattle.nv_recover.proofs.StoreRows.{across_tells}
use Rattle.nv_recover.proofs.Throughout.{throughout_then, stores_throughout, parts_throughout}

-- ---- images

-- quiet parts have one image
quiet_says : (parts : List Part) (image : Image) → AreQuiet parts → IsRowImage parts image → SayTheSame (row_words parts) image
quiet_says parts image quiet is =
    same_words (row_words parts) image (λ part line word. quiet_line (slice_index_or parts part []) (image part) line word ((quiet.each part).lines line) (is.each part))

-- headers that say the same but for the tail read alike
pub header_alike : (version : Version) (page entries : ℕ) (names : List (List ℕ)) (tail next : ℕ) (image other : Image) → ReadsAs (layout_of version) page entries names tail image → ReadsAs (layout_of version) page entries names next other → ReadsAlike image other
header_alike version page entries names tail next image other reads later =
    let was = layout_is version image reads.readable.fields.version_is in
    let now = layout_is version other later.readable.fields.version_is in
    record {
      version = later.readable.fields.version_is ∙ sym reads.readable.fields.version_is;
      readable = subst (λ layout. IsHead layout layout.header_lines other) (sym now) later.readable;
      page = later.page_is ∙ sym reads.page_is;
      entries = later.entries_is ∙ sym reads.entries_is;
      names =
          ap (λ layout. first_names layout other (header_of other).files) now
          ∙ later.names_are
          ∙ sym reads.names_are
          ∙ ap (λ layout. first_names layout image (header_of image).files) (sym was);
    }

-- images that say the same have the same log
same_log : (image other : Image) → SayTheSame image other → HasSameLog image other
same_log image other same = record {
  first = λ stores. ap (λ (all : All). all.first) (same_recovered image other same stores);
  groups = λ stores. ap (λ (all : All). all.groups) (same_recovered image other same stores);
  next = λ stores. ap (λ (all : All). all.next) (same_recovered image other same stores);
}

-- one whose log is empty, and goes on with the next number
pub emptied_log : (version : Version) (page entries : ℕ) (names : List (List ℕ)) (tail next : ℕ) (image other : Image) → ((stores : Files) → next ≡ (recovered image stores).next)
    → ReadsAs (layout_of version) page entries names tail image → HasEmptyLog (layout_of version) page entries names next other → HasEmptiedLog image other
emptied_log version page entries names tail next image other goes_on reads empty stores =
    let None : ℕ → Type 0 = λ count. HasNoneFrom count (recovered image stores).next other in
    subst
    (λ layout. HasEmptyLog layout (header_of image).page (header_of image).entries (first_names layout image (header_of image).files) (recovered image stores).next other)
    (sym (layout_is version image reads.readable.fields.version_is))
    (record {
      header = record {
        readable = empty.header.readable;
        page_is = empty.header.page_is ∙ sym reads.page_is;
        entries_is = empty.header.entries_is ∙ sym reads.entries_is;
        names_are = empty.header.names_are ∙ sym reads.names_are;
        tail_is = empty.header.tail_is ∙ goes_on stores;
      };
      log = subst None (sym reads.entries_is) (record { uncommitted = λ number from. empty.log.uncommitted number (omega (arith, goes_on stores)) });
    })

module _ (version : Version) (page entries : ℕ) (names : List (List ℕ)) (tail : ℕ) where
  same_stands : (image other : Image) (was held : List Store) (bytes : Files) → ReadsAs (layout_of version) page entries names tail image → SayTheSame image other → RecoverAlike image was held → AreStoreImages held bytes
      → TakesPlace image (files_of was) other bytes
  same_stands image other was held bytes reads same alike are = record {
    header = header_alike version page entries names tail tail image other reads (reads_too version page entries names tail image other same.header reads);
    log = inl (same_log image other same);
    files = λ fits. record {
      fits = subst (λ layout. Fits layout other) (sym (layout_same image other (same.header 0 1))) (same_fits image other same (layout_in image) fits);
      recovers = ap (λ (all : All). all.files) (same_recovered image other same bytes) ∙ alike bytes are;
    };
  }

  stands_read : (parts now : List Part) (was held : List Store) → now ≡ parts → AreQuiet parts → ReadsAs (layout_of version) page entries names tail (row_words parts) → RecoverAlike (row_words parts) was held
      → StandsStill (row_words parts) (files_of was) now held
  stands_read parts now was held same quiet reads alike image bytes is are =
      let Is : List Part → Type 0 = λ these. IsRowImage these image in
      same_stands (row_words parts) image was held bytes reads (quiet_says parts image quiet (subst Is same is)) alike are

  stands_emptied : (next : ℕ) (image : Image) (now : List Part) (was held : List Store) → ((stores : Files) → next ≡ (recovered image stores).next) → ReadsAs (layout_of version) page entries names tail image
      → InEachRowImage (SaysTheSameOrEmpty (layout_of version) page entries names next image) now → RecoverAlike image was held → HoldRecovered image was held → StandsStill image (files_of was) now held
  stands_emptied next image now was held goes_on reads each alike hold other bytes is are = elim (each other is) [
    | inl same ↦ same_stands image other was held bytes reads same alike are
    | inr empty ↦
        let none = empty_none page entries names next other empty in
        record {
          header = header_alike version page entries names tail next image other reads empty.header;
          log = inr (emptied_log version page entries names tail next image other goes_on reads empty);
          files = λ fits. record {
            fits = empty_fits (layout_in other) other none;
            recovers = empty_recovered other bytes none ∙ quiet_image held bytes hold.synced are ∙ hold.files;
          };
        }
  ]

-- ---- rows

-- stores that nothing was done to recover alike
pub alike_still : (parts : List lines.PartHistory) (row : List StoreHistory) → RowTells row AreQuietStores → AcrossThroughout parts row row RecoverAlike
alike_still parts row quiet = quiet_alike parts row row quiet (across_still parts row StaysAlike (unwritten parts row StaysAlike alike_none))

-- where the stores are synced after that
pub alike_synced : (parts : List lines.PartHistory) (old between new : List StoreHistory) → (AllTell old → AllTell between) → AcrossThroughout parts old between RecoverAlike
    → RowTells between (λ was. ThroughoutRow (LeaveNoMore was) between new) → AcrossThroughout parts old new RecoverAlike
alike_synced parts old between new tells alike moments =
    across_throughout parts old between new RecoverAlike (λ image. LeaveNoMore) RecoverAlike tells (λ image was now like. like)
    (λ image was then now like less bytes are. like bytes (less bytes are)) alike
    (row_tells_any parts (λ these. RowTells between (λ was. ThroughoutRow (LeaveNoMore was) between new)) (λ these. moments))

quiet_synced : (stores : List Store) → AreQuietStores (map (after_store_step Sync) stores)
quiet_synced stores i d inside =
    let store = slice_index_or stores i d in
    let below : i < length stores = omega (arith, length-map stores (after_store_step Sync)) in
    subst IsQuietStore (sym (get_or-map (after_store_step Sync) stores i d d below)) (quiet_is_quiet store.seen)

pub hold_synced : (parts : List lines.PartHistory) (old between new : List StoreHistory) → (AllTell old → AllTell between)
    → AcrossTells parts old between (λ image was now. files_of now ≡ (recovered image (files_of was)).files)
    → RowTells between (λ was. RowTells new (λ now. now ≡ map (after_store_step Sync) was)) → RowTells between (λ was. RowTells new (λ now. files_of now ≡ files_of was))
    → AcrossTells parts old new HoldRecovered
hold_synced parts old between new tells written synced seen =
    let Wrote : Image → List Store → List Store → Type 0 = λ image was now. files_of now ≡ (recovered image (files_of was)).files in
    let Synced : List Store → List Store → Type 0 = λ was now. now ≡ map (after_store_step Sync) was in
    let Seen : List Store → List Store → Type 0 = λ was now. files_of now ≡ files_of was in
    let Both : List Store → List Store → Type 0 = λ was now. Synced was now × Seen was now in
    across_tells parts old between new Wrote (λ image. Both) HoldRecovered tells
    (λ image was then now wrote both. record { files = both.1 ∙ wrote; synced = subst AreQuietStores (sym both.0) (quiet_synced then) })
    written
    (row_tells_any parts (λ these. RowTells between (λ was. RowTells new (Both was)))
    (λ these.
    row_tells_more between (λ was. RowTells new (Synced was) × RowTells new (Seen was)) (λ was. RowTells new (Both was))
    (λ was both. row_tells_both new (Synced was) (Seen was) both.0 both.1)
    (row_tells_both between (λ was. RowTells new (Synced was)) (λ was. RowTells new (Seen was)) synced seen)))

-- ---- each moment

-- the devices of two rows of histories
abbrev pub both_rows : List lines.PartHistory → List StoreHistory → Devices
both_rows parts stores = record { parts = parts; stores = stores }

-- while the stores are written, and the parts only read
module _ (version : Version) (page entries : ℕ) (names : List (List ℕ)) (tail : ℕ) (parts : List lines.PartHistory) (reads : RowTells parts (λ these. ReadsAs (layout_of version) page entries names tail (row_words these))) (quiet : RowTells parts AreQuiet) (old new : List StoreHistory) (alike : AcrossThroughout parts old new RecoverAlike) where
  stands_written : (these : List Part) (was : List Store) → AreNow parts these → AreNow old was → ThroughoutDevices (StandsStill (row_words these) (files_of was)) (both_rows parts old) (both_rows parts new)
  stands_written these was are were =
      let image = row_words these in
      stores_throughout parts (RecoverAlike image was) (StandsStill image (files_of was))
      (λ row alikes.
      row_tells_from parts (λ now. RowTells row (StandsStill image (files_of was) now))
      (λ now they.
      row_tells_more row (RecoverAlike image was) (StandsStill image (files_of was) now)
      (λ held like.
      stands_read version page entries names tail these now was held (are_now_same parts now these they are) (row_tells_at parts AreQuiet these are quiet)
      (row_tells_at parts (λ these. ReadsAs (layout_of version) page entries names tail (row_words these)) these are reads) like)
      alikes))
      (row_tells_at old (λ was. ThroughoutRow (RecoverAlike image was) old new) was were
      (row_tells_at parts (λ these. RowTells old (λ was. ThroughoutRow (RecoverAlike (row_words these) was) old new)) these are alike))

  pub stand_read : StandThroughout (both_rows parts old) (both_rows parts new)
  stand_read =
      row_tells_from parts (λ these. RowTells old (λ was. ThroughoutDevices (StandsStill (row_words these) (files_of was)) (both_rows parts old) (both_rows parts new)))
      (λ these are.
      row_tells_from old (λ was. ThroughoutDevices (StandsStill (row_words these) (files_of was)) (both_rows parts old) (both_rows parts new))
      (λ was were. stands_written these was are were))

  -- and then the log is emptied, and the stores stay
  pub stand_emptied : (next : ℕ) (parts_now : List lines.PartHistory) → RowTells parts (λ these. (stores : Files) → next ≡ (recovered (row_words these) stores).next)
      → RowTells parts (λ was. ThroughoutRow (InEachRowImage (SaysTheSameOrEmpty (layout_of version) page entries names next (row_words was))) parts parts_now)
      → AcrossTells parts old new HoldRecovered → StandThroughout (both_rows parts old) (both_rows parts_now new)
  stand_emptied next parts_now goes_on says hold =
      row_tells_from parts (λ these. RowTells old (λ was. ThroughoutDevices (StandsStill (row_words these) (files_of was)) (both_rows parts old) (both_rows parts_now new)))
      (λ these are.
      let image = row_words these in
      let Says : List Part → Type 0 = InEachRowImage (SaysTheSameOrEmpty (layout_of version) page entries names next image) in
      row_tells_from old (λ was. ThroughoutDevices (StandsStill image (files_of was)) (both_rows parts old) (both_rows parts_now new))
      (λ was were.
      let like : RowTells new (RecoverAlike image was) =
      row_tells_at old (λ was. RowTells new (RecoverAlike image was)) was were
      (row_tells_at parts (λ these. RowTells old (λ was. RowTells new (RecoverAlike (row_words these) was))) these are (across_last parts old new RecoverAlike alike)) in
      let held : RowTells new (HoldRecovered image was) =
      row_tells_at old (λ was. RowTells new (HoldRecovered image was)) was were
      (row_tells_at parts (λ these. RowTells old (λ was. RowTells new (HoldRecovered (row_words these) was))) these are hold) in
      throughout_then (λ devices. DevicesTell devices (StandsStill image (files_of was))) (stands_written these was are were)
      (parts_throughout new Says (StandsStill image (files_of was))
      (λ row saying.
      row_tells_more row Says (λ now. RowTells new (StandsStill image (files_of was) now))
      (λ now each.
      row_tells_more new (λ held. RecoverAlike image was held × HoldRecovered image was held) (StandsStill image (files_of was) now)
      (λ held both.
      stands_emptied version page entries names tail next image now was held
      (row_tells_at parts (λ these. (stores : Files) → next ≡ (recovered (row_words these) stores).next) these are goes_on)
      (row_tells_at parts (λ these. ReadsAs (layout_of version) page entries names tail (row_words these)) these are reads) each both.0 both.1)
      (row_tells_both new (RecoverAlike image was) (HoldRecovered image was) like held))
      saying)
      (row_tells_at parts (λ was. ThroughoutRow (InEachRowImage (SaysTheSameOrEmpty (layout_of version) page entries names next (row_words was))) parts parts_now) these are says))))

-- ---- in the rows that calls leave, which were read

-- while the stores are written
pub stand_on : (version : Version) (page entries : ℕ) (names : List (List ℕ)) (tail : ℕ) (first read then : List lines.PartHistory) (old new : List StoreHistory) → read ≡ first → then ≡ read
    → RowTells first (λ these. ReadsAs (layout_of version) page entries names tail (row_words these)) → RowTells first AreQuiet
    → AcrossThroughout read old new RecoverAlike → StandThroughout (both_rows first old) (both_rows then new)
stand_on version page entries names tail first read then old new one two reads quiet alike =
    let At : List lines.PartHistory → Type 0 = λ row. StandThroughout (both_rows first old) (both_rows row new) in
    let Alike : List lines.PartHistory → Type 0 = λ row. AcrossThroughout row old new RecoverAlike in
    subst At (sym (two ∙ one)) (stand_read version page entries names tail first reads quiet old new (subst Alike one alike))

-- and then the log is emptied
pub stand_last : (version : Version) (page entries : ℕ) (names : List (List ℕ)) (tail : ℕ) (first read then last : List lines.PartHistory) (old new : List StoreHistory) (found : Recovered) → read ≡ first → then ≡ read
    → RowTells first (λ these. ReadsAs (layout_of version) page entries names tail (row_words these)) → RowTells first AreQuiet
    → AcrossThroughout read old new RecoverAlike → AcrossTells read old new HoldRecovered → RowTells first (λ these. HasFoundAll (row_words these) found)
    → ((these : List (List ℕ)) → RowTells then (λ was. ReadsAs (layout_of version) page entries these tail (row_words was))
    → RowTells then (λ was. ThroughoutRow (InEachRowImage (SaysTheSameOrEmpty (layout_of version) page entries these found.next (row_words was))) then last))
    → StandThroughout (both_rows first old) (both_rows last new)
stand_last version page entries names tail first read then last old new found one two reads quiet alike hold found_all says =
    let Alike : List lines.PartHistory → Type 0 = λ row. AcrossThroughout row old new RecoverAlike in
    let Hold : List lines.PartHistory → Type 0 = λ row. AcrossTells row old new HoldRecovered in
    let Reads : List lines.PartHistory → Type 0 = λ row. RowTells row (λ these. ReadsAs (layout_of version) page entries names tail (row_words these)) in
    let Says : List lines.PartHistory → Type 0 = λ row.
    RowTells row (λ was. ThroughoutRow (InEachRowImage (SaysTheSameOrEmpty (layout_of version) page entries names found.next (row_words was))) row last) in
    stand_emptied version page entries names tail first reads quiet old new (subst Alike one alike) found.next last
    (row_tells_more first (λ these. HasFoundAll (row_words these) found) (λ these. (stores : Files) → found.next ≡ (recovered (row_words these) stores).next) (λ these all. all.next) found_all)
    (subst Says (two ∙ one) (says names (subst Reads (sym (two ∙ one)) reads))) (subst Hold one hold)

-- ---- an image that doesn't fit

-- nothing was written
pub unfit_read : (parts now : List lines.PartHistory) (stores : List StoreHistory) → now ≡ parts → UnfitIsUnwritten (both_rows parts stores) (both_rows now stores)
unfit_read parts now stores same =
    row_tells_any parts (λ these. ¬ Fits (layout_in (row_words these)) (row_words these) → both_rows now stores ≡ both_rows parts stores)
    (λ these unfit. ap (λ row. both_rows row stores) same)

-- none was found to fit
pub unfit_found : (parts : List lines.PartHistory) (stores : List StoreHistory) (groups : List Group) (new : Devices) → RowTells parts (λ these. AreGroups (row_words these) groups) → UnfitIsUnwritten (both_rows parts stores) new
unfit_found parts stores groups new found =
    row_tells_more parts (λ these. AreGroups (row_words these) groups) (λ these. ¬ Fits (layout_in (row_words these)) (row_words these) → new ≡ both_rows parts stores)
    (λ these are unfit. absurd (unfit are.fits)) found

-- ---- what was found

module _ (row : List lines.PartHistory) (bounds : Bounds) (groups : List Group) (says : RowTells row (λ parts. SaysBounds bounds (row_words parts))) (are : RowTells row (λ parts. AreGroups (row_words parts) groups)) where
  both : RowTells row (λ parts. SaysBounds bounds (row_words parts) × AreGroups (row_words parts) groups)
  both =
      let Says : List Part → Type 0 = λ parts. SaysBounds bounds (row_words parts) in
      let Are : List Part → Type 0 = λ parts. AreGroups (row_words parts) groups in
      row_tells_both row Says Are says are

  -- no number is committed from the next one on
  pub none_tells : (next : ℕ) → (bounds.tail ≤ end_of bounds.tail groups → end_of bounds.tail groups ≤ 2 ^ 60 → next ≡ end_of bounds.tail groups) → RowTells row (λ parts. CommitsNoneFrom next (row_words parts))
  none_tells next is =
      row_tells_more row (λ parts. SaysBounds bounds (row_words parts) × AreGroups (row_words parts) groups) (λ parts. CommitsNoneFrom next (row_words parts))
      (λ parts here.
      let end = ends (row_words parts) bounds.tail groups here.0.tail bounds.tail_in_limits here.1 in
      let None : ℕ → Type 0 = λ n. CommitsNoneFrom n (row_words parts) in
      subst None (sym (is end.from_tail end.limit)) end.none)
      both

  -- the numbers are those that the image recovers with
  pub found_tells : (found : Recovered) → found.first ≡ bounds.tail → found.groups ≡ leaders_of groups
      → (bounds.tail ≤ end_of bounds.tail groups → end_of bounds.tail groups ≤ 2 ^ 60 → found.next ≡ end_of bounds.tail groups)
      → RowTells row (λ parts. HasFoundAll (row_words parts) found)
  found_tells found first leaders next =
      row_tells_more row (λ parts. SaysBounds bounds (row_words parts) × AreGroups (row_words parts) groups) (λ parts. HasFoundAll (row_words parts) found)
      (λ parts here.
      let end = ends (row_words parts) bounds.tail groups here.0.tail bounds.tail_in_limits here.1 in
      record {
        fits = here.1.fits;
        first = λ stores. first ∙ sym here.0.tail;
        next = λ stores. next end.from_tail end.limit ∙ end.is_next;
        groups = λ stores. leaders ∙ here.1.leaders;
      })
      both
