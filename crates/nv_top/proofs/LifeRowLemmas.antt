-- Rows of lives: one more life behind those that crashes ended.
use Rattle.std.proofs.Common.{◌≡◌, List, [], ◌∷◌, ◌++◌, refl, sym, ap, subst, ◌∙◌}
use Rattle.nv_bench.specs.Benches.{BenchState}
use Rattle.nv_bench.specs.Holding.{Holding}
use Rattle.nv_trace.specs.Lives.{TracedLife}
use Rattle.nv_trace.specs.Traced.{Traced}
use Rattle.nv_trace.specs.declared.trace_call.TracedCall.{TracedCall}
use Rattle.nv_runner.specs.Reports.{Report}
use Rattle.nv_top.specs.LifeRows.{HasEnded, HaveEnded}
use Rattle.nv_words.specs.declared.words.RunOptions.{RunOptions}

pub ended_more : (options : RunOptions) (trace : Traced) (lives : List TracedLife) (life : TracedLife) (calls left behind : List TracedCall) (old mid new : BenchState) (was here now : Holding) (reports : List Report)
    → HaveEnded options trace lives calls left old mid was here reports → (one : HasEnded options trace life left behind mid new here now)
    → HaveEnded options trace (lives ++ life ∷ []) calls behind old new was now (reports ++ one.followed.scheduled.report ∷ [])
ended_more options trace [] life calls left behind old mid new was here now reports (calls_are, same, holds, none) one =
    let Ended : List TracedCall → BenchState → Holding → Type 0 = λ calls old was. (this : HasEnded options trace life calls behind old new was now) × (this.followed.scheduled.report ≡ one.followed.scheduled.report) in
    let this : Ended calls old was = subst (λ calls. Ended calls old was) calls_are (subst (λ old. Ended left old was) same (subst (λ was. Ended left mid was) holds (one, refl))) in
    (behind, new, now, [], this.0, ap (λ reports. reports ++ one.followed.scheduled.report ∷ []) none ∙ ap (λ report. report ∷ []) (sym this.1), (refl, refl, refl, refl))
ended_more options trace (first ∷ lives) life calls left behind old mid new was here now reports (after, then_, held, rest, begun, are, ended) one = (
  after,
  then_,
  held,
  rest ++ one.followed.scheduled.report ∷ [],
  begun,
  ap (λ reports. reports ++ one.followed.scheduled.report ∷ []) are,
  ended_more options trace lives life after left behind then_ mid new held here now rest ended one,
)
