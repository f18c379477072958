use Rattle.std.proofs.Common.{◌≡◌, ◌++◌, ◌+◌, ◌<◌, ◌∷◌, [], length, drop, ap, ◌∙◌, sym, arith}
use Rattle.std.proofs.lemmas.List.{drop_all, append-nil}
use Rattle.nv_trace.specs.Report.{file_text}
use Rattle.nv_look.specs.Texts.{files_text}
use Rattle.nv_look.proofs.TextLemmas.{drop-at, goes_on, files_none}
use Rattle.nv_look.proofs.showing.push_files.Goals as goal

pub loop-i-preserved : goal.loop-i-preserved
loop-i-preserved c =
    let names = c.args.names.now in
    let files = c.args.files.now in
    let i = c.loop-i.i in
    let name = c.index-names-i.result in
    let bytes = c.index-files-i.result in
    let inside : i < length names = omega (arith, c.requires, c.loop-i-test.true) in
    let next : drop i names ≡ name ∷ drop (i + 1) names = drop-at names i name inside c.index-names-i.is in
    let next_bytes : drop i files ≡ bytes ∷ drop (i + 1) files = drop-at files i bytes c.loop-i-test.true c.index-files-i.is in
    let lines : files_text (drop i names) (drop i files) ≡ files_text (name ∷ drop (i + 1) names) (bytes ∷ drop (i + 1) files) =
    ap (λ these. files_text these (drop i files)) next ∙ ap (files_text (name ∷ drop (i + 1) names)) next_bytes in
    let line : c.in_ok-line.line ≡ file_text name bytes =
    c.in_ok-line.ensures ∙ (ap (λ n. file_text n c.as_slice-in-loop-i.result.now) c.as_slice.ensures ∙ ap (file_text name) c.as_slice-in-loop-i.ensures) in
    goes_on c.loop-i.text.items (file_text name bytes) (files_text (drop (i + 1) names) (drop (i + 1) files)) (c.args.text.now.items ++ files_text names files)
    c.extend_from_slice.new.self.items
    (c.in_ok-extend_from_slice.ensures.items ∙ ap (λ l. c.loop-i.text.items ++ l) (c.as_slice-in-loop-i-2.ensures ∙ line))
    (ap (λ l. c.loop-i.text.items ++ l) (sym lines) ∙ c.loop-i.invariant)

pub returns : goal.returns
returns c =
    let done : drop c.loop-i.i c.args.files.now ≡ [] = drop_all c.loop-i.i c.args.files.now c.loop-i-test.false in
    let rest : files_text (drop c.loop-i.i c.args.names.now) (drop c.loop-i.i c.args.files.now) ≡ [] =
    ap (λ files. files_text (drop c.loop-i.i c.args.names.now) files) done ∙ files_none (drop c.loop-i.i c.args.names.now) in
    sym (append-nil c.loop-i.text.items) ∙ ap (λ l. c.loop-i.text.items ++ l) (sym rest) ∙ c.loop-i.invariant
