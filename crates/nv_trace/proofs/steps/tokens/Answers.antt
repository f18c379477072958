use Rattle.std.proofs.Common.{◌≡◌, ◌<◌, ℕ, Some, None, length, get_or, map, eqb, refl, ap, sym, ◌∙◌, rules, tests, arith}
use Rattle.std.specs.Option.{ok_or}
use Rattle.std.proofs.lemmas.List.{map_push}
use Rattle.std.proofs.lemmas.List.Elements.{All-nil, All-push}
use Rattle.std.proofs.lemmas.Iterator.Consumers.{YieldsList-turn, YieldsList-end}
use Rattle.std.proofs.lemmas.Iterator.Splits.{YieldsList-from_slice_split}
use Rattle.nv_trace.specs.Lines.{fields_of}
use Rattle.nv_trace.specs.Shape.{IsLineTokenWithin}
use Rattle.nv_trace.specs.Tokens.{token_of, tokens_of}
use Rattle.nv_trace.specs.declared.bad_line.Why.TheVariants as why
use Rattle.nv_trace.proofs.Fields.{parts_are}
use Rattle.nv_trace.proofs.TokenLists.{none_at, one_more}
use Rattle.nv_trace.proofs.steps.tokens.Goals as goal

pub loop-field-init : goal.loop-field-init
unfolding tokens_of
loop-field-init c = rw c.new-tokens.ensures.items (record { read = refl; within = All-nil IsLineTokenWithin })

pub returns-in_default-clause-bad : goal.returns-in_default-clause-bad
returns-in_default-clause-bad c =
    let fields = fields_of c.args.line.now in
    let place = length c.loop-field.yielded in
    let field = c.in-Some.field.now in
    let turn = YieldsList-turn (YieldsList-from_slice_split {s = c.into_iter-field-iterator.result} _ (λ (byte : ℕ). eqb byte 32) c.args.line.now (cc) (cc) (cc) (λ x r q k. search (rules, tests))) c.loop-field.yielded _ c.loop-field.yielded_by _ _ c.in-Some.field c.in-Some.is c.next.ensures.steps in
    let same = parts_are 32 c.args.line.now in
    let inside : place < length fields = omega (arith, turn.0, ap length same) in
    let none : token_of (get_or fields place field) ≡ None =
    ap token_of (sym (turn.1 ∙ ap (λ fields. get_or fields place field) same)) ∙ sym c.token_of.ensures.read ∙ c.in_default.is in
    ap (λ tokens. ok_or tokens why.Form) (none_at fields place field inside none)

pub loop-field-preserved : goal.loop-field-preserved
loop-field-preserved c =
    let token = c.in-Some-token_of.token in
    let is : token_of c.in-Some.field.now ≡ Some token = sym c.token_of.ensures.read ∙ c.in-Some-token_of.is in
    rw c.in_ok-push.ensures.items (record {
      read = ap tokens_of (map_push (λ field. field.now) c.loop-field.yielded c.in-Some.field)
          ∙ one_more (map (λ field. field.now) c.loop-field.yielded) c.in-Some.field.now c.loop-field.tokens.items token c.loop-field.invariant.read is;
      within = All-push IsLineTokenWithin c.loop-field.tokens.items token c.loop-field.invariant.within c.in-Some-token_of.ensures.within;
    })

pub returns-clause-read : goal.returns-clause-read
returns-clause-read c =
    let end = YieldsList-end (YieldsList-from_slice_split {s = c.into_iter-field-iterator.result} _ (λ (byte : ℕ). eqb byte 32) c.args.line.now (cc) (cc) (cc) (λ x r q k. search (rules, tests))) c.loop-field.yielded _ c.loop-field.yielded_by _ _ c.in-None.is c.next.ensures.steps in
    ap tokens_of (sym (end.0 ∙ parts_are 32 c.args.line.now)) ∙ c.loop-field.invariant.read
