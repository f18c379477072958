use Rattle.std.proofs.Common.{◌≡◌, List, [], Result, Ok, Err, sym, ap, ◌∙◌, subst}
use Rattle.std.specs.Prelude.{All}
use Rattle.std.specs.Result.{OnOk, OnErr}
use Rattle.nv_trace.specs.Forms.{has_steps}
use Rattle.std.specs.Prelude.{true}
use Rattle.nv_trace.specs.Lives.{TracedLives, joined_lives, lives_behind}
use Rattle.nv_trace.specs.Reading.{with_tokens}
use Rattle.nv_trace.specs.Shape.{IsLineTokenWithin, IsWellFormed}
use Rattle.nv_trace.specs.Traced.{Traced, lives_in}
use Rattle.nv_trace.specs.declared.token.LineToken.{LineToken}
use Rattle.nv_trace.proofs.Joined.{joined_behind}
use Rattle.nv_trace.proofs.Shapes.{tokens_go_on}
use Rattle.nv_trace.proofs.trace.Trace.push_tokens.Goals as goal

either : {A B : Type 0} (P : TracedLives → Type 0) (result : Result A B) (new old all : TracedLives) → OnOk result (new ≡ all) → OnErr result (new ≡ old) → P old → P all → P new
either P (Ok _) new old all ok err was is = subst P (sym ok) is
either P (Err _) new old all ok err was is = subst P (sym err) was

-- the lives of a line, where they were made
all_lives : (lives more : TracedLives) (tokens : List LineToken) → more ≡ lives_behind (record { ended = []; tokens = [] }) tokens → joined_lives lives more.ended more.tokens ≡ lives_behind lives tokens
all_lives lives more tokens is = ap (λ (more : TracedLives). joined_lives lives more.ended more.tokens) is ∙ joined_behind lives tokens

-- a trace stays well formed, whether it took tokens or not
stays : {A B : Type 0} (trace : Traced) (tokens : List LineToken) (more new : TracedLives) (result : Result A B) → has_steps trace.form ≡ true → All IsLineTokenWithin tokens → IsWellFormed trace
    → more ≡ lives_behind (record { ended = []; tokens = [] }) tokens → OnOk result (new ≡ joined_lives (lives_in trace) more.ended more.tokens) → OnErr result (new ≡ lives_in trace)
    → IsWellFormed (record trace { lives = new.ended; tokens = new.tokens })
stays trace tokens more new result has within is made ok err =
    let P : TracedLives → Type 0 = λ lives. IsWellFormed (record trace { lives = lives.ended; tokens = lives.tokens }) in
    either P result new (lives_in trace) (joined_lives (lives_in trace) more.ended more.tokens) ok err is (subst P (sym (all_lives (lives_in trace) more tokens made)) (tokens_go_on trace tokens has within is))

pub invariant_of-self : goal.invariant_of-self
invariant_of-self c =
    let trace : Traced = record { form = c.self.inside.form; names = c.self.inside.names.items; descriptors = c.self.inside.descriptors.items; calls = c.self.inside.calls.items; rounds = c.self.inside.rounds; lives = c.self.inside.lives.ended; tokens = c.self.inside.lives.tokens } in
    stays trace c.args.tokens.now c.in_ok-more.more c.append.new.self c.append.result (subst (λ (trace : Traced). has_steps trace.form ≡ true) (sym c.self.view_is) c.requires.form) c.requires.within c.self.invariant c.in_ok-more.ensures c.append.ensures.joined c.append.ensures.unchanged

pub returns-clause-pushed : goal.returns-clause-pushed
returns-clause-pushed c =
    let trace : Traced = record { form = c.self.inside.form; names = c.self.inside.names.items; descriptors = c.self.inside.descriptors.items; calls = c.self.inside.calls.items; rounds = c.self.inside.rounds; lives = c.self.inside.lives.ended; tokens = c.self.inside.lives.tokens } in
    ap (λ (lives : TracedLives). record trace { lives = lives.ended; tokens = lives.tokens }) (c.in_ok-append.ensures.joined ∙ all_lives (lives_in trace) c.in_ok-more.more c.args.tokens.now c.in_ok-more.ensures)
    ∙ ap (λ (trace : Traced). with_tokens trace c.args.tokens.now) c.self.view_is

pub invariant_of-self-2 : goal.invariant_of-self-2
invariant_of-self-2 c =
    let trace : Traced = record { form = c.self.inside.form; names = c.self.inside.names.items; descriptors = c.self.inside.descriptors.items; calls = c.self.inside.calls.items; rounds = c.self.inside.rounds; lives = c.self.inside.lives.ended; tokens = c.self.inside.lives.tokens } in
    stays trace c.args.tokens.now c.in_ok-more.more c.append.new.self c.append.result (subst (λ (trace : Traced). has_steps trace.form ≡ true) (sym c.self.view_is) c.requires.form) c.requires.within c.self.invariant c.in_ok-more.ensures c.append.ensures.joined c.append.ensures.unchanged
