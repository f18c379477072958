-- Its present call goes on, or is answered and the next one is present.
use Rattle.std.proofs.Common.{◌≡◌, true, false, ◌∷◌, ◌++◌, [], drop, refl, sym, ap, subst, ◌∙◌, rules}
use Rattle.std.specs.Prelude.{List, Option, is_some}
use Rattle.nv_trace.specs.declared.trace_call.TracedCall.{TracedCall}
use Rattle.nv_runner.specs.declared.answer.Answer.{Answer}
use Rattle.std.proofs.lemmas.List.{map-append}
use Rattle.nv_runner.specs.Lists.{made_call, made_calls}
use Rattle.nv_runner.specs.Shifts.{calls_of_thread}
use Rattle.nv_runner.proofs.OwnerLaws.{own_first}
use Rattle.nv_schedule.specs.declared.hand.Hand.{Hand}
use Rattle.nv_schedule.specs.Barred.{IsAnsweredEarly, IsFirstAnsweredEarly}
use Rattle.nv_schedule.specs.Callers.{CallGoes, IsAtCall, ThreadState}
use Rattle.nv_schedule.specs.Faulted.{hand_faulted}
use Rattle.nv_schedule.proofs.FaultLaws.{told_so}
use Rattle.nv_schedule.proofs.ThreadLaws.{at_present, come_on, come_past, first_and_rest, rest_whole}
use Rattle.nv_schedule.proofs.thread.Thread.turn.Goals as goal

pub advance_call-requires-clause-at : goal.advance_call-requires-clause-at
advance_call-requires-clause-at g c =
    let calls = c.self.inside.left.now in
    let is : calls ≡ c.call-item.result ∷ drop 1 calls = search rules in
    let present : c.args.self.now.left ≡ c.call-item.result ∷ calls_of_thread c.self.inside.number (drop 1 calls) =
    ap (λ (t : ThreadState). t.left) (sym c.self.view_is) ∙ own_first c.self.inside.number calls c.call-item.result (drop 1 calls) c.self.invariant is in
    let come = c.requires.come.1 in (
      calls_of_thread c.self.inside.number (drop 1 calls),
      come.last,
      subst (λ (hand : Option Hand). IsAtCall c.args.mount.now.fds (c.call-item.result ∷ calls_of_thread c.self.inside.number (drop 1 calls)) hand come.last c.args.pass.now) (ap (λ (t : ThreadState). t.hand) (sym c.self.view_is))
          (at_present c.args.mount.now.fds c.args.self.now c.args.self.now c.call-item.result (calls_of_thread c.self.inside.number (drop 1 calls)) c.requires.come.0 c.args.pass.now c.args.pass.now present come.last come.at),
    )

pub returns-in-None-clause-come : goal.returns-in-None-clause-come
returns-in-None-clause-come g c = λ start come.
    let fds = c.args.mount.now.fds in
    let old = c.args.self.now in
    let calls = c.self.inside.left.now in
    let call = c.call-item.result in
    let is : calls ≡ call ∷ drop 1 calls = first_and_rest calls call c.in-len1-up.len_at_least c.call-item.is in
    let new : ThreadState = record { left = calls_of_thread c.self.inside.number calls; begun = true; hand = c.advance_call.new.hand; made = made_calls c.reserve.new.self.items } in
    come_on fds old new call (calls_of_thread c.self.inside.number (drop 1 calls)) start c.args.pass.now c.advance_call.new.pass
    (ap (λ (t : ThreadState). t.left) (sym c.self.view_is) ∙ own_first c.self.inside.number calls call (drop 1 calls) c.self.invariant is)
    (ap (λ (t : ThreadState). t.left) c.self.view_is)
    (ap made_calls c.reserve.ensures.items ∙ ap (λ (t : ThreadState). t.made) c.self.view_is) refl
    (λ after last at.
    subst (CallGoes fds call after c.advance_call.new.hand last c.advance_call.new.pass) c.in-None.is
    (c.in_ok-answer.ensures.goes after last
    (subst (λ (hand : Option Hand). IsAtCall fds (call ∷ after) hand last c.args.pass.now) (ap (λ (t : ThreadState). t.hand) (sym c.self.view_is)) at)))
    come

pub returns-in-Some-clause-ends : goal.returns-in-Some-clause-ends
returns-in-Some-clause-ends g c =
    let calls = c.self.inside.left.now in
    let call = c.call-item.result in
    let is : calls ≡ call ∷ drop 1 calls = first_and_rest calls call c.in-len1-up.len_at_least c.call-item.is in
    let same : calls_of_thread c.self.inside.number c.from_own-self-inside.result.now ≡ calls_of_thread c.self.inside.number (drop 1 calls) = c.from_own-self-inside.ensures.same ∙ ap (calls_of_thread c.self.inside.number) (rest_whole calls) in
    let more : made_calls c.push_reserved.new.self.items ≡ made_calls c.reserve.new.self.items ++ record { call = call; answer = c.in-Some.answer } ∷ [] =
    ap made_calls c.push_reserved.ensures.items ∙ map-append made_call c.reserve.new.self.items _ in (
      record { call = call; answer = c.in-Some.answer },
      ap (λ (t : ThreadState). t.left) (sym c.self.view_is) ∙ own_first c.self.inside.number calls call (drop 1 calls) c.self.invariant is ∙ ap (λ later. call ∷ later) (sym same),
      more ∙ ap (λ made. made ++ record { call = call; answer = c.in-Some.answer } ∷ []) (ap made_calls c.reserve.ensures.items ∙ ap (λ (t : ThreadState). t.made) c.self.view_is),
      refl,
    )

pub returns-in-Some-clause-come : goal.returns-in-Some-clause-come
unfolding returns-in-Some-clause-ends
returns-in-Some-clause-come g c = λ start come.
    let fds = c.args.mount.now.fds in
    let old = c.args.self.now in
    let calls = c.self.inside.left.now in
    let call = c.call-item.result in
    let is : calls ≡ call ∷ drop 1 calls = first_and_rest calls call c.in-len1-up.len_at_least c.call-item.is in
    let new : ThreadState = record { left = calls_of_thread c.self.inside.number c.from_own-self-inside.result.now; begun = false; hand = c.advance_call.new.hand; made = made_calls c.push_reserved.new.self.items } in
    come_past fds old new call (calls_of_thread c.self.inside.number (drop 1 calls)) start c.args.pass.now c.advance_call.new.pass
    (ap (λ (t : ThreadState). t.left) (sym c.self.view_is) ∙ own_first c.self.inside.number calls call (drop 1 calls) c.self.invariant is)
    c.in-Some.answer (returns-in-Some-clause-ends g c).2
    (λ after last at.
    subst (CallGoes fds call after c.advance_call.new.hand last c.advance_call.new.pass) c.in-Some.is
    (c.in_ok-answer.ensures.goes after last
    (subst (λ (hand : Option Hand). IsAtCall fds (call ∷ after) hand last c.args.pass.now) (ap (λ (t : ThreadState). t.hand) (sym c.self.view_is)) at)))
    come

pub returns-in-None-clause-call : goal.returns-in-None-clause-call
returns-in-None-clause-call g c = λ last at.
    let fds = c.args.mount.now.fds in
    let old = c.args.self.now in
    let number = c.self.inside.number in
    let calls = c.self.inside.left.now in
    let call = c.call-item.result in
    let later = calls_of_thread number (drop 1 calls) in
    let is : calls ≡ call ∷ drop 1 calls = first_and_rest calls call c.in-len1-up.len_at_least c.call-item.is in
    let own : calls_of_thread number calls ≡ call ∷ later = own_first number calls call (drop 1 calls) c.self.invariant is in
    let present : old.left ≡ call ∷ later = ap (λ (t : ThreadState). t.left) (sym c.self.view_is) ∙ own in
    let there = at_present fds old old call later c.args.pass.now c.args.pass.now c.args.pass.now present last at in
    subst (λ (left : List TracedCall). IsAtCall fds left c.advance_call.new.hand last c.advance_call.new.pass) (sym own)
    (subst (CallGoes fds call later c.advance_call.new.hand last c.advance_call.new.pass) c.in-None.is
    (c.in_ok-answer.ensures.goes later last
    (subst (λ (hand : Option Hand). IsAtCall fds (call ∷ later) hand last c.args.pass.now) (ap (λ (t : ThreadState). t.hand) (sym c.self.view_is)) there)))

pub returns-in-Some-clause-call : goal.returns-in-Some-clause-call
unfolding returns-in-Some-clause-ends
returns-in-Some-clause-call g c = λ last at.
    let fds = c.args.mount.now.fds in
    let old = c.args.self.now in
    let number = c.self.inside.number in
    let calls = c.self.inside.left.now in
    let call = c.call-item.result in
    let later = calls_of_thread number (drop 1 calls) in
    let is : calls ≡ call ∷ drop 1 calls = first_and_rest calls call c.in-len1-up.len_at_least c.call-item.is in
    let present : old.left ≡ call ∷ later = ap (λ (t : ThreadState). t.left) (sym c.self.view_is) ∙ own_first number calls call (drop 1 calls) c.self.invariant is in
    let there = at_present fds old old call later c.args.pass.now c.args.pass.now c.args.pass.now present last at in
    let gone =
    subst (CallGoes fds call later c.advance_call.new.hand last c.advance_call.new.pass) c.in-Some.is
    (c.in_ok-answer.ensures.goes later last
    (subst (λ (hand : Option Hand). IsAtCall fds (call ∷ later) hand last c.args.pass.now) (ap (λ (t : ThreadState). t.hand) (sym c.self.view_is)) there)) in
    let ends = returns-in-Some-clause-ends g c in
    (ends.0, ends.1, ends.2, gone.1)

pub returns-in-None-clause-moved : goal.returns-in-None-clause-moved
returns-in-None-clause-moved g c =
    let fds = c.args.mount.now.fds in
    let sizes = c.args.pass.now.view.opened.sizes in
    let calls = c.self.inside.left.now in
    let call = c.call-item.result in
    let is : calls ≡ call ∷ drop 1 calls = first_and_rest calls call c.in-len1-up.len_at_least c.call-item.is in
    let present : c.args.self.now.left ≡ call ∷ calls_of_thread c.self.inside.number (drop 1 calls) =
    ap (λ (t : ThreadState). t.left) (sym c.self.view_is) ∙ own_first c.self.inside.number calls call (drop 1 calls) c.self.invariant is in
    told_so (IsAnsweredEarly sizes fds call.call (is_some c.in_ok-answer.answer)) (IsFirstAnsweredEarly sizes fds c.args.self.now.left false) (hand_faulted c.self.inside.hand) (hand_faulted c.args.self.now.hand) c.in_ok-answer.faulted c.in_ok-answer.faulted
    c.args.pass.now c.advance_call.new.pass (ap (λ (t : ThreadState). hand_faulted t.hand) c.self.view_is) refl
    (λ early. subst (λ (left : List TracedCall). IsFirstAnsweredEarly sizes fds left false) (sym present) (subst (λ (answer : Option Answer). IsAnsweredEarly sizes fds call.call (is_some answer)) c.in-None.is early)) c.in_ok-answer.ensures.moved

pub returns-in-Some-clause-moved : goal.returns-in-Some-clause-moved
returns-in-Some-clause-moved g c =
    let fds = c.args.mount.now.fds in
    let sizes = c.args.pass.now.view.opened.sizes in
    let calls = c.self.inside.left.now in
    let call = c.call-item.result in
    let is : calls ≡ call ∷ drop 1 calls = first_and_rest calls call c.in-len1-up.len_at_least c.call-item.is in
    let present : c.args.self.now.left ≡ call ∷ calls_of_thread c.self.inside.number (drop 1 calls) =
    ap (λ (t : ThreadState). t.left) (sym c.self.view_is) ∙ own_first c.self.inside.number calls call (drop 1 calls) c.self.invariant is in
    told_so (IsAnsweredEarly sizes fds call.call (is_some c.in_ok-answer.answer)) (IsFirstAnsweredEarly sizes fds c.args.self.now.left true) (hand_faulted c.self.inside.hand) (hand_faulted c.args.self.now.hand) c.in_ok-answer.faulted c.in_ok-answer.faulted
    c.args.pass.now c.advance_call.new.pass (ap (λ (t : ThreadState). hand_faulted t.hand) c.self.view_is) refl
    (λ early. subst (λ (left : List TracedCall). IsFirstAnsweredEarly sizes fds left true) (sym present) (subst (λ (answer : Option Answer). IsAnsweredEarly sizes fds call.call (is_some answer)) c.in-Some.is early)) c.in_ok-answer.ensures.moved
