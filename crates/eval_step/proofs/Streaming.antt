-- What primitives of the streams answer is told by the machine.
use Rattle.std.proofs.Math.ListN.{drop_of_length-le}
use Rattle.std.proofs.Math.Seq.{drop-cons}
use Rattle.std.proofs.lemmas.Option.{get_or_from_slice_get, slice_get_within, slice_get_cases}
use Rattle.std.proofs.Common.{◌≡◌, ℕ, suc, ◌+◌, ◌≤◌, ◌⊎◌, ◌||◌, ◌++◌, ◌==◌, append_assoc, if◌then◌else◌, pos, negsuc, Bool, true, false, List, [], ◌∷◌, drop, length, Option, Some, None, Result, Ok, Err, OnOk, refl, ap, sym, ◌∙◌, subst, reverse, arith, inl, inr}
use Rattle.std.specs.Prelude.{slice_get, is_some}
use Rattle.lang_meaning.specs.declared.primitive.Primitive.{Primitive}
use Rattle.lang_meaning.specs.declared.primitive.Primitive.TheVariants as p
use Rattle.lang_meaning.specs.declared.program.ProgramRows.{ProgramRows}
use Rattle.lang_meaning.specs.Values.{truth, integer, nil}
use Rattle.lang_meaning.specs.State.{State, Limit}
use Rattle.lang_meaning.specs.Objects.{stream_class, character_class}
use Rattle.lang_meaning.specs.Classes.{fetch}
use Rattle.lang_meaning.specs.Primitives.{Answer, result, domain_error, needs, primitive, as_stream, as_character, first_byte, other_bytes, is_fresh_line}
use Rattle.flat_language.specs.FlatNodes.{tables}
use Rattle.eval_store.specs.declared.word.Word.{Word}
use Rattle.eval_store.specs.declared.word.Word.TheVariants.{Integer, Nil}
use Rattle.eval_store.specs.Words.{value_of_word, values_of, object_of}
use Rattle.eval_store.specs.declared.object.Object.{Object}
use Rattle.eval_store.specs.declared.store.Store.{Store}
use Rattle.eval_store.specs.View.{Beside, IsFetched, state_of, limit_of}
use Rattle.eval_primitives.specs.declared.answer.Answer.{Answer as Told}
use Rattle.eval_primitives.specs.declared.answer.Answer.TheVariants.{Gives, Fails, DomainError}
use Rattle.eval_primitives.specs.Answers.{told, carried, carried_out}
use Rattle.eval_primitives.specs.Groups.{stream_of}
use Rattle.eval_primitives.specs.declared.group.Stream.{Stream}
use Rattle.eval_primitives.specs.declared.group.Stream.TheVariants as group
use Rattle.eval_state.specs.declared.given.Given.{Given}
use Rattle.eval_state.specs.declared.situation.DynamicLinks.{DynamicLinks}
use Rattle.eval_state.specs.declared.machine.Machine.{Machine}
use Rattle.eval_state.specs.Operands.{IsDropped}
use Rattle.eval_state.specs.Frames.{last_of, others_of, frames_in}
use Rattle.eval_state.specs.View.{IsGiven, setting_of, state, top, frames, dynamic_context}
use Rattle.eval_state.specs.Computing.{computed, carry, GoesOnWithAnswer}
use Rattle.eval_state.proofs.Pushes.{others_none}
use Rattle.eval_state.proofs.Carrying.{carried as answered_so}
use Rattle.eval_step.specs.declared.evaluator.Evaluator.{Evaluator}
use Rattle.eval_step.specs.Runs.{Stands, Runs}
use Rattle.eval_step.specs.Streams.{IsAnsweredBeside, IsStreamed, IsPrinted, IsStream, IsCharacter, reads, is_fed}
use Rattle.eval_step.proofs.Lifting.{beside_another}

-- what is left of an answer that asks for nothing
told_left : (limit : Limit) (names : List (List ℕ)) (m : Machine) (b c : Beside) (a : Told)
    → carried_out limit (told names a (state names m c).state) (state names m b) ≡ carried names a (state names m c)
told_left limit names m b c (Gives w) = refl
told_left limit names m b c (Fails class) = refl
told_left limit names m b c (DomainError w class) = refl

pub streamed_told : (old mid new : Evaluator) (down : Machine) (which : Primitive) (n level : ℕ) (around : DynamicLinks) (a : Told)
    → IsStreamed old mid which (last_of n old.machine.operands.items) a → IsDropped mid.machine down n → new ≡ record mid { machine = new.machine }
    → GoesOnWithAnswer down new.machine (Ok a) level around
    → Runs old new (λ names s b. computed s which (top names old.machine n) level (dynamic_context names old.machine around) (frames names old.machine n) (state names old.machine b))
streamed_told old mid new down which n level around a h d same t =
    let all : down ≡ record old.machine { operands = down.operands } = d.same ∙ ap (λ (m : Machine). record m { operands = down.operands }) h.machine in
    let operands : others_of 0 down.operands.items ≡ others_of n old.machine.operands.items =
    others_none down.operands.items ∙ d.operands ∙ ap (λ (m : Machine). others_of n m.operands.items) h.machine in
    let given_is : down.given ≡ old.machine.given = ap (λ (m : Machine). m.given) all in
    record {
      given = t.given ∙ given_is;
      ended = ap (λ (e : Evaluator). e.ended) same ∙ h.ended;
      comes = λ names written unread b g s.
          let q : IsAnsweredBeside names mid written unread b which (last_of n old.machine.operands.items) a = h.comes names written unread b s in
          let answer : Answer = primitive names (tables old.machine.given.program.now) which (top names old.machine n) (state names old.machine b).state in
          record {
            beside = q.beside;
            stands = subst (λ e. Stands names e written unread q.beside) (sym same) (beside_another names mid new.machine written unread q.beside q.stands);
            is =
                t.comes names q.beside (carried names a (state names down q.beside)) (let P : Given → Type 0 = λ x. IsGiven names x in subst P (sym given_is) g) refl
                ∙ ap (λ (m : Machine). carry (setting_of names m.given) (carried names a (state names m q.beside)) level (dynamic_context names m around) (frames names m 0)) all
                ∙ ap (λ os. carry (setting_of names old.machine.given) (carried names a (state names old.machine q.beside)) level (dynamic_context names old.machine around)
                (frames_in names old.machine.current os old.machine.slots.items (reverse old.machine.frames.items))) operands
                ∙ ap (λ r. carry (setting_of names old.machine.given) r level (dynamic_context names old.machine around) (frames names old.machine n))
                (sym (ap (λ x. carried_out (limit_of old.machine.given.limit) x (state names old.machine b))
                (subst (λ (m : Machine). primitive names (tables old.machine.given.program.now) which (top names old.machine n) (state_of names m.store b) ≡ told names a (state_of names m.store q.beside)) h.machine
                (q.told (tables old.machine.given.program.now))) ∙ told_left (limit_of old.machine.given.limit) names old.machine b q.beside a))
                ∙ answered_so (setting_of names old.machine.given) answer level (dynamic_context names old.machine around) (frames names old.machine n) (state names old.machine b);
          };
    }

pub streamed_told_ok : {E : Type 0} (r : Result Unit E) (old mid new : Evaluator) (down : Machine) (which : Primitive) (n level : ℕ) (around : DynamicLinks) (a : Told)
    → IsStreamed old mid which (last_of n old.machine.operands.items) a → IsDropped mid.machine down n → new ≡ record mid { machine = new.machine }
    → OnOk r (GoesOnWithAnswer down new.machine (Ok a) level around)
    → OnOk r (Runs old new (λ names s b. computed s which (top names old.machine n) level (dynamic_context names old.machine around) (frames names old.machine n) (state names old.machine b)))
streamed_told_ok (Ok x) old mid new down which n level around a h d same t = streamed_told old mid new down which n level around a h d same t
streamed_told_ok (Err e) old mid new down which n level around a h d same t = t

-- an answer that leaves all as it is
pub stays_told : (e : Evaluator) (which : Primitive) (ws : List Word) (a : Told)
    → ((names : List (List ℕ)) (written unread : List ℕ) (b : Beside) (rows : ProgramRows) → Stands names e written unread b
    → primitive names rows which (values_of names ws) (state_of names e.machine.store b) ≡ told names a (state_of names e.machine.store b))
    → IsStreamed e e which ws a
stays_told e which ws a h = record {
  machine = refl;
  ended = refl;
  comes = λ names written unread b s. record { beside = b; stands = s; told = λ rows. h names written unread b rows s };
}

-- one that takes no arguments has some
some_given : (e : Evaluator) (g : Stream) (w : Word) (ws : List Word) → (g ≡ group.PutChar → ⊥) → IsStreamed e e (stream_of g) (w ∷ ws) (Gives Nil)
some_given e group.PutChar w ws f = absurd (f refl)
some_given e group.IsFreshLine w ws f = stays_told e p.IsFreshLine (w ∷ ws) (Gives Nil) (λ names written unread b rows s. refl)
some_given e group.GetByte w ws f = stays_told e p.GetByte (w ∷ ws) (Gives Nil) (λ names written unread b rows s. refl)
some_given e group.PeekByte w ws f = stays_told e p.PeekByte (w ∷ ws) (Gives Nil) (λ names written unread b rows s. refl)

pub given_some : (e : Evaluator) (g : Stream) (ws : List Word) → 1 ≤ length ws → (g ≡ group.PutChar → ⊥) → IsStreamed e e (stream_of g) ws (Gives Nil)
given_some e g [] h f = absurd (omega (arith, h))
given_some e g (w ∷ ws) h f = some_given e g w ws f

pub fresh_told : (e : Evaluator) (w : Word) → ((names : List (List ℕ)) → value_of_word names w ≡ truth e.at_start) → IsStreamed e e p.IsFreshLine [] (Gives w)
fresh_told e w h = stays_told e p.IsFreshLine [] (Gives w) (λ names written unread b rows s.
    ap (λ v. result v (state_of names e.machine.store b)) (ap truth (sym s.at_start) ∙ sym (h names)))

-- what is left to read, where a byte is there, and where none is
next_there : (xs unread : List ℕ) (i x : ℕ) → slice_get xs i ≡ Some x → drop i xs ++ unread ≡ x ∷ (drop (suc i) xs ++ unread)
next_there xs unread i x e =
    ap (λ ys. ys ++ unread) (drop-cons xs i x (slice_get_within xs i x e) ∙ ap (λ y. y ∷ drop (suc i) xs) (get_or_from_slice_get xs i x x e))

or_none : (b : Bool) → (b || false) ≡ true → b ≡ true
or_none true h = refl
or_none false h = h

past : (xs : List ℕ) (i : ℕ) → slice_get xs i ≡ None → length xs ≤ i
past xs i n = elim (slice_get_cases xs i).1 [ inl y ↦ absurd (cc (sym n ∙ y.2)) | inr z ↦ z.0 ]

none_left : (e : Evaluator) (unread : List ℕ) → slice_get e.ahead.items e.taken ≡ None → is_fed e ≡ true → (e.ended ≡ true → unread ≡ []) → drop e.taken e.ahead.items ++ unread ≡ []
none_left e unread n fed h =
    ap (λ ys. ys ++ unread) (drop_of_length-le e.ahead.items (past e.ahead.items e.taken n))
    ∙ h (or_none e.ended (subst (λ o. (e.ended || is_some o) ≡ true) n fed))

peeked_byte : (e : Evaluator) (x : ℕ) → slice_get e.ahead.items e.taken ≡ Some x → IsStreamed e e p.PeekByte [] (Gives (Integer (pos x)))
peeked_byte e x i = stays_told e p.PeekByte [] (Gives (Integer (pos x))) (λ names written unread b rows s.
    ap (λ ys. result (first_byte ys) (state_of names e.machine.store b)) (s.input ∙ next_there e.ahead.items unread e.taken x i))

pub peeked : (e : Evaluator) (x : ℕ) (w : Word) → w ≡ Integer (pos x) → slice_get e.ahead.items e.taken ≡ Some x → IsStreamed e e p.PeekByte [] (Gives w)
peeked e x w is i = subst (λ v. IsStreamed e e p.PeekByte [] (Gives v)) (sym is) (peeked_byte e x i)

pub peeked_none : (e : Evaluator) → slice_get e.ahead.items e.taken ≡ None → is_fed e ≡ true → IsStreamed e e p.PeekByte [] (Gives (Integer (negsuc 0)))
peeked_none e n fed = stays_told e p.PeekByte [] (Gives (Integer (negsuc 0))) (λ names written unread b rows s.
    ap (λ ys. result (first_byte ys) (state_of names e.machine.store b)) (s.input ∙ none_left e unread n fed s.ended))

next_place : {X : Type 0} (f : ℕ → X) (n : ℕ) → f (suc n) ≡ f (n + 1)
next_place f n = let e : suc n ≡ n + 1 = omega arith in ap f e

-- a byte is taken
taken_byte : (e : Evaluator) (x : ℕ) → slice_get e.ahead.items e.taken ≡ Some x
    → IsStreamed e (record e { taken = e.taken + 1 }) p.GetByte [] (Gives (Integer (pos x)))
taken_byte e x i = record {
  machine = refl;
  ended = refl;
  comes = λ names written unread b s.
      let input : b.input ≡ x ∷ (drop (suc e.taken) e.ahead.items ++ unread) = s.input ∙ next_there e.ahead.items unread e.taken x i in
      record {
        beside = record b { input = other_bytes b.input };
        stands = record {
          globals = s.globals;
          dynamics = s.dynamics;
          printed = s.printed;
          at_start = s.at_start;
          input = ap other_bytes input ∙ next_place (λ k. drop k e.ahead.items ++ unread) e.taken;
          ended = s.ended;
        };
        told = λ rows. ap (λ v. result v (state_of names e.machine.store (record b { input = other_bytes b.input }))) (ap first_byte input);
      };
}

pub taken_one : (e : Evaluator) (x : ℕ) (w : Word) → w ≡ Integer (pos x) → slice_get e.ahead.items e.taken ≡ Some x
    → IsStreamed e (record e { taken = e.taken + 1 }) p.GetByte [] (Gives w)
taken_one e x w is i = subst (λ v. IsStreamed e (record e { taken = e.taken + 1 }) p.GetByte [] (Gives v)) (sym is) (taken_byte e x i)

pub taken_none : (e : Evaluator) → slice_get e.ahead.items e.taken ≡ None → is_fed e ≡ true → IsStreamed e e p.GetByte [] (Gives (Integer (negsuc 0)))
taken_none e n fed = record {
  machine = refl;
  ended = refl;
  comes = λ names written unread b s.
      let input : b.input ≡ [] = s.input ∙ none_left e unread n fed s.ended in
      record {
        beside = b;
        stands = s;
        told = λ rows. ap (λ ys. result (first_byte ys) (state_of names e.machine.store (record b { input = other_bytes ys }))) input ∙ ap (λ ys. result (integer (negsuc 0)) (state_of names e.machine.store (record b { input = ys }))) (sym input);
      };
}

-- what the store has under a word
pub side_fetched : (s : Store) (w : Word) (o : Object) (r : Option Bool) → IsFetched s w (Some o) → ((names : List (List ℕ)) → as_stream (Some (object_of names o)) ≡ r)
    → (names : List (List ℕ)) (b : Beside) → as_stream (fetch (state_of names s b) (value_of_word names w)) ≡ r
side_fetched s w o r x h names b = ap as_stream (x.object names b) ∙ h names

pub no_side : (s : Store) (w : Word) → IsFetched s w None → (names : List (List ℕ)) (b : Beside) → as_stream (fetch (state_of names s b) (value_of_word names w)) ≡ None
no_side s w x names b = ap as_stream (x.object names b)

-- a character put on a stream, by what the stream and the value are
abbrev put_character : List (List ℕ) → Word → Bool → Word → Option ℕ → State → Answer
put_character names v is_output w o z = needs o (domain_error (value_of_word names w) character_class z) (λ c.
    if is_output then result nil (record z { printed = z.printed ++ c ∷ [] })
    else domain_error (value_of_word names v) stream_class z)

abbrev put_value : List (List ℕ) → Word → Word → Option Bool → State → Answer
put_value names v w o z = needs o (domain_error (value_of_word names v) stream_class z) (λ is_output.
    put_character names v is_output w (as_character (value_of_word names w)) z)

pub put_no_stream : (e : Evaluator) (v w : Word) (r : Option Bool) → r ≡ None
    → ((names : List (List ℕ)) (b : Beside) → as_stream (fetch (state_of names e.machine.store b) (value_of_word names v)) ≡ r)
    → IsStreamed e e p.PutChar (v ∷ w ∷ []) (DomainError v 14)
put_no_stream e v w r none h = stays_told e p.PutChar (v ∷ w ∷ []) (DomainError v 14) (λ names written unread b rows s.
    ap (λ o. put_value names v w o (state_of names e.machine.store b)) (h names b ∙ none))

-- on a stream, by the character
put_there : (names : List (List ℕ)) (rows : ProgramRows) (m : Machine) (b : Beside) (v w : Word) (q : Bool) (o : Option ℕ) → IsStream m v q → as_character (value_of_word names w) ≡ o
    → primitive names rows p.PutChar (values_of names (v ∷ w ∷ [])) (state_of names m.store b) ≡ put_character names v q w o (state_of names m.store b)
put_there names rows m b v w q o h k =
    ap (λ x. put_value names v w x (state_of names m.store b)) (h.is names b) ∙ ap (λ x. put_character names v q w x (state_of names m.store b)) k

pub put_no_character : (e : Evaluator) (v w : Word) (q : Bool) (o : Option ℕ) → o ≡ None → IsStream e.machine v q
    → ((names : List (List ℕ)) → as_character (value_of_word names w) ≡ o) → IsStreamed e e p.PutChar (v ∷ w ∷ []) (DomainError w 5)
put_no_character e v w q o none h k = stays_told e p.PutChar (v ∷ w ∷ []) (DomainError w 5) (λ names written unread b rows s.
    put_there names rows e.machine b v w q None h (k names ∙ none))

pub put_on_input : (e : Evaluator) (v w : Word) (q : Bool) (code : ℕ) → q ≡ false → IsStream e.machine v q → IsCharacter w code → IsStreamed e e p.PutChar (v ∷ w ∷ []) (DomainError v 14)
put_on_input e v w q code denied h k = stays_told e p.PutChar (v ∷ w ∷ []) (DomainError v 14) (λ names written unread b rows s.
    put_there names rows e.machine b v w q (Some code) h (k.is names)
    ∙ ap (λ r. put_character names v r w (Some code) (state_of names e.machine.store b)) denied)

pub put_done : (old new : Evaluator) (v w : Word) (q : Bool) (code : ℕ) → q ≡ true → IsStream old.machine v q → IsCharacter w code → IsPrinted old new code
    → IsStreamed old new p.PutChar (v ∷ w ∷ []) (Gives Nil)
put_done old new v w q code granted h k x = record {
  machine = x.machine;
  ended = x.ended;
  comes = λ names written unread b s. record {
    beside = record b { printed = b.printed ++ code ∷ [] };
    stands = x.stands names written unread b s;
    told = λ rows.
        subst (λ (m : Machine). primitive names rows p.PutChar (values_of names (v ∷ w ∷ [])) (state_of names m.store b)
        ≡ result nil (state_of names m.store (record b { printed = b.printed ++ code ∷ [] }))) (sym x.machine)
        (put_there names rows old.machine b v w q (Some code) h (k.is names)
        ∙ ap (λ r. put_character names v r w (Some code) (state_of names old.machine.store b)) granted);
  };
}

-- a byte more ends a line or not
fresh_after : (xs : List ℕ) (x : ℕ) → (x == 10) ≡ is_fresh_line (xs ++ x ∷ [])
fresh_after [] x = refl
fresh_after (a ∷ []) x = refl
fresh_after (a ∷ c ∷ cs) x = fresh_after (c ∷ cs) x

pub printed_more : (old new : Evaluator) (byte : ℕ) → new.printed.items ≡ old.printed.items ++ byte ∷ []
    → new ≡ record old { printed = new.printed; at_start = byte == 10 } → IsPrinted old new byte
printed_more old new byte items same = record {
  machine = ap (λ (e : Evaluator). e.machine) same;
  ended = ap (λ (e : Evaluator). e.ended) same;
  stands = λ names written unread b s. subst (λ e. Stands names e written unread (record b { printed = b.printed ++ byte ∷ [] })) (sym same) (record {
    globals = s.globals;
    dynamics = s.dynamics;
    printed = ap (λ xs. xs ++ byte ∷ []) s.printed ∙ append_assoc written old.printed.items (byte ∷ []) ∙ ap (λ xs. written ++ xs) (sym items);
    at_start = fresh_after b.printed byte;
    input = s.input;
    ended = s.ended;
  });
}

-- what a primitive reads is there
reading : (which : Stream) (ws : List Word) → (which ≡ group.GetByte) ⊎ (which ≡ group.PeekByte) → ws ≡ [] → reads (stream_of which) ws ≡ true
reading which ws (inl w) empty = ap (λ x. reads (stream_of x) ws) w ∙ ap (reads p.GetByte) empty
reading which ws (inr w) empty = ap (λ x. reads (stream_of x) ws) w ∙ ap (reads p.PeekByte) empty

pub reads_byte : (which : Stream) (ws : List Word) (e : Evaluator) → (which ≡ group.GetByte) ⊎ (which ≡ group.PeekByte) → ws ≡ []
    → (reads (stream_of which) ws ≡ true → is_fed e ≡ true) → is_fed e ≡ true
reads_byte which ws e w empty h = h (reading which ws w empty)
