use Rattle.std.proofs.Common.{◌≡◌, ◌++◌, ◌+◌, ◌<◌, ◌∷◌, ℕ, [], List, length, drop, ap, ◌∙◌, sym, arith}
use Rattle.std.proofs.lemmas.List.{drop_all, append-nil}
use Rattle.nv_trace.specs.Report.{file_text}
use Rattle.nv_runner.specs.Faithful.{named}
use Rattle.nv_top.specs.Reports.{file_lines}
use Rattle.nv_look.proofs.TextLemmas.{drop-at, goes_on}
use Rattle.nv_top.proofs.text.push_files.Goals as goal

shown : (names contents : List (List ℕ)) → List ℕ
shown names contents = file_lines (named names (record { contents = contents }))

pub loop-place-preserved : goal.loop-place-preserved
unfolding shown
loop-place-preserved c =
    let names = c.args.names.now in
    let files = c.args.files.now in
    let place = c.loop-place.place in
    let name = c.index-names-place.result in
    let bytes = c.index-files-place.result in
    let inside : place < length files = omega (arith, c.requires, c.loop-place-test.true) in
    let next : drop place names ≡ name ∷ drop (place + 1) names = drop-at names place name c.loop-place-test.true c.index-names-place.is in
    let next_bytes : drop place files ≡ bytes ∷ drop (place + 1) files = drop-at files place bytes inside c.index-files-place.is in
    let lines : shown (drop place names) (drop place files) ≡ shown (name ∷ drop (place + 1) names) (bytes ∷ drop (place + 1) files) =
    ap (λ ns. shown ns (drop place files)) next ∙ ap (shown (name ∷ drop (place + 1) names)) next_bytes in
    let line : c.in_ok-file_line.field-0 ≡ file_text name bytes =
    c.in_ok-file_line.ensures ∙ (ap (λ n. file_text n c.as_slice-in-loop-place.result.now) c.as_slice.ensures ∙ ap (file_text name) c.as_slice-in-loop-place.ensures) in
    goes_on c.loop-place.text.items c.in_ok-file_line.field-0
    (shown (drop (place + 1) names) (drop (place + 1) files))
    (c.args.text.now.items ++ shown names files)
    c.push-in-loop-place.new.text.items c.in_ok-push.ensures
    (ap (λ l. c.loop-place.text.items ++ l) (ap (λ t. t ++ shown (drop (place + 1) names) (drop (place + 1) files)) line ∙ sym lines)
    ∙ c.loop-place.invariant)

pub returns : goal.returns
unfolding shown
returns c =
    let done : drop c.loop-place.place c.args.names.now ≡ [] = drop_all c.loop-place.place c.args.names.now c.loop-place-test.false in
    let rest : shown (drop c.loop-place.place c.args.names.now) (drop c.loop-place.place c.args.files.now) ≡ [] =
    ap (λ names. shown names (drop c.loop-place.place c.args.files.now)) done in
    sym (append-nil c.loop-place.text.items) ∙ ap (λ l. c.loop-place.text.items ++ l) (sym rest) ∙ c.loop-place.invariant
