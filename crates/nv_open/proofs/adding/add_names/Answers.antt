use Rattle.std.proofs.Common.{length, sym, ap, ◌∙◌, arith}
use Rattle.nv_open.proofs.NewNames.{not_refused}
use Rattle.nv_open.proofs.Openings.{item_at}
use Rattle.std.proofs.Common.{map}
use Rattle.std.proofs.lemmas.Grind.{common_steps}
use Rattle.nv_open.proofs.LineCounts.{same_lines}
use Rattle.nv_open.proofs.Tells.{did_tells}
use Rattle.std.proofs.Common.{◌≡◌, ◌++◌, ◌+◌, [], ◌∷◌, List, ℕ, take, inl, inr, refl, subst, append_assoc}
use Rattle.std.proofs.lemmas.List.{take_more}
use Rattle.nv_plain.specs.Images.{Image}
use Rattle.nv_plain.specs.Layouts.{layout_of, mount_layout, mount_version}
use Rattle.nv_plain.specs.declared.limits.Version.{Version}
use Rattle.nv_header.specs.Additions.{HasNamesOrOneMore, IsNotAdded}
use Rattle.nv_header.specs.Regions.{HasEmptyLog}
use Rattle.nv_open.specs.Unopened.{HasFirstNames}
use Rattle.nv_open.proofs.Partly.{row_end, row_more}
use Rattle.nv_open.proofs.adding.add_names.Goals as goal

pub returns-in-Err-clause-never : goal.returns-in-Err-clause-never
returns-in-Err-clause-never g c why is =
    let names = c.args.names.now in
    let i = c.loop-name.name-index in
    not_refused c.args.region.names names c.loop-name.region.names c.as_slice.result.now i c.in-Err.error why c.requires.names (omega (arith, ap length c.as_slice-name-items.ensures))
    (c.as_slice.ensures ∙ item_at c.as_slice-name-items.result.now names i c.name-item.result c.as_slice-name-items.ensures c.loop-name-test.true c.name-item.is)
    c.loop-name.invariant.names
    (subst (λ (version : Version). IsNotAdded (layout_of version) c.loop-name.region.names c.as_slice.result.now c.in-Err.error) c.loop-name.invariant.version c.in-Err.ensures.refused) (sym c.into.ensures ∙ is)

pub loop-name-preserved : goal.loop-name-preserved
loop-name-preserved g c = record {
  names = grind (arith, common_steps);
  version = c.in-Ok.ensures.version ∙ c.loop-name.invariant.version;
  geometry = c.in-Ok.ensures.geometry ∙ c.loop-name.invariant.geometry;
  tell = λ told.
      did_tells _ (map g.L.Lines.history c.loop-name.region.parts.items) (map g.L.Lines.history c.in-Ok.added.parts.items) c.in-Ok.ensures.done
      (c.loop-name.invariant.tell told);
  counts = c.in-Ok.ensures.changed.lines ∙ c.loop-name.invariant.counts;
  next = c.in-Ok.ensures.next ∙ c.loop-name.invariant.next;
  faults = c.in-Ok.ensures.cause ∙ c.loop-name.invariant.faults;
}

pub returns-in-Err-clause-lines : goal.returns-in-Err-clause-lines
returns-in-Err-clause-lines g c =
    same_lines g.L.Lines.history g.L.Lines.room g.met.L.Lines.told_lines c.args.region.parts.items c.in-Err.parts.items (c.in-Err.ensures.changed.lines ∙ c.loop-name.invariant.counts)

pub returns-clause-lines : goal.returns-clause-lines
returns-clause-lines g c = same_lines g.L.Lines.history g.L.Lines.room g.met.L.Lines.told_lines c.args.region.parts.items c.loop-name.region.parts.items c.loop-name.invariant.counts

pub returns-in-Err-clause-left : goal.returns-in-Err-clause-left
returns-in-Err-clause-left g c tell =
    let region = c.loop-name.region in
    let names = c.args.names.now in
    let i = c.loop-name.name-index in
    let name = c.as_slice.result.now in
    let page = c.args.region.geometry.page in
    let entries = c.args.region.geometry.entries in
    let geometry = c.loop-name.invariant.geometry in
    let same_page = ap (λ geometry. geometry.page) geometry in
    let same_entries = ap (λ geometry. geometry.entries) geometry in
    let at = c.as_slice.ensures ∙ item_at c.as_slice-name-items.result.now names i c.name-item.result c.as_slice-name-items.ensures c.loop-name-test.true c.name-item.is in
    row_more (HasNamesOrOneMore (layout_of region.version) region.geometry.page region.geometry.entries region.names name region.next) (HasFirstNames mount_version page entries c.args.region.names names c.args.region.next) (map g.L.Lines.history c.in-Err.parts.items)
    (λ image has. elim has [
      | inl as_before ↦ record { now = mount_version; now_is = inr refl; count = i; empty = said image page entries region.geometry.page region.geometry.entries region.version c.loop-name.invariant.version region.names (c.args.region.names ++ take i names) region.next c.args.region.next same_page same_entries c.loop-name.invariant.names c.loop-name.invariant.next as_before }
      | inr one_more ↦ record {
        now = mount_version;
        now_is = inr refl;
        count = i + 1;
        empty =
            said image page entries region.geometry.page region.geometry.entries region.version c.loop-name.invariant.version (region.names ++ name ∷ []) (c.args.region.names ++ take (i + 1) names) region.next c.args.region.next same_page same_entries
            (ap (λ front. front ++ name ∷ []) c.loop-name.invariant.names ∙ append_assoc c.args.region.names (take i names) (name ∷ [])
            ∙ ap (λ rest. c.args.region.names ++ rest) (ap (λ one. take i names ++ one ∷ []) at ∙ sym (take_more names i [] (omega (arith, ap length c.as_slice-name-items.ensures, c.loop-name-test.true)))))
            c.loop-name.invariant.next one_more;
      }
    ])
    (row_end (HasNamesOrOneMore (layout_of region.version) region.geometry.page region.geometry.entries region.names name region.next) (map g.L.Lines.history region.parts.items) (map g.L.Lines.history c.in-Err.parts.items)
    c.rows_have_states.ensures.some (c.loop-name.invariant.tell tell) c.in-Err.ensures.changed.moments)
  where
    said : (image : Image) (page entries at_page at_entries : ℕ) (version : Version) → version ≡ mount_version → (was names : List (List ℕ)) (at_next next : ℕ) → at_page ≡ page → at_entries ≡ entries → was ≡ names → at_next ≡ next
        → HasEmptyLog (layout_of version) at_page at_entries was at_next image → HasEmptyLog mount_layout page entries names next image
    said image page entries at_page at_entries version same_version was names at_next next pages entry same nexts empty =
        subst (λ (n : ℕ). HasEmptyLog mount_layout n entries names next image) pages
        (subst (λ (n : ℕ). HasEmptyLog mount_layout at_page n names next image) entry
        (subst (λ (these : List (List ℕ)). HasEmptyLog mount_layout at_page at_entries these next image) same
        (subst (λ (n : ℕ). HasEmptyLog mount_layout at_page at_entries was n image) nexts
        (subst (λ (one : Version). HasEmptyLog (layout_of one) at_page at_entries was at_next image) same_version empty))))
