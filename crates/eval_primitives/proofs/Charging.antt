-- What is passed in a search is counted, and what was found is answered.
use Rattle.std.proofs.Common.{◌≡◌, ◌==◌, ℕ, ◌+◌, ◌<◌, ◌≤◌, ◌^◌, arith, Bool, true, false, List, [], ◌∷◌, length, drop, get_or, Option, Some, None, Result, Ok, Err, pos, refl, sym, ◌∙◌, ap, subst, zero-add, add-one, drop-cons}
use Rattle.std.specs.Prelude.{slice_get, if◌then◌else◌, nat_lt}
use Rattle.std.specs.List.{position_or_len}
use Rattle.std.specs.Str.{bytes_eq}
use Rattle.std.proofs.lemmas.List.{drop_all, get_or_past}
use Rattle.std.proofs.lemmas.Bool.{lt-ltb, le-ltb}
use Rattle.std.proofs.lemmas.Bool.Decides.{same_from_decides}
use Rattle.std.proofs.lemmas.Option.{slice_get_past, get_or_from_slice_get}
use Rattle.std.proofs.lemmas.Slice.Eq.{bytes_eq-Decides}
use Rattle.base.specs.declared.datum.Name.{Name}
use Rattle.lang_meaning.specs.declared.primitive.Primitive.TheVariants as the
use Rattle.lang_meaning.specs.declared.program.ProgramRows.{ProgramRows}
use Rattle.lang_meaning.specs.declared.program.ClassRow.{ClassRow}
use Rattle.lang_meaning.specs.declared.program.SlotRow.{SlotRow}
use Rattle.lang_meaning.specs.Values.{nil, integer}
use Rattle.lang_meaning.specs.State.{State}
use Rattle.lang_meaning.specs.State as base
use Rattle.lang_meaning.specs.Lookup.{text, passed}
use Rattle.lang_meaning.specs.Classes.{is_below, slots, precedence, class_of}
use Rattle.lang_meaning.specs.Primitives.{primitive, says, is_slot, slot_place, program_error, index_of}
use Rattle.lang_meaning.specs.Primitives as meaning
use Rattle.flat_language.specs.FlatState.{FlatState, FlatEvaluated, gives, charged}
use Rattle.eval_store.specs.declared.word.Word.{Word}
use Rattle.eval_store.specs.declared.word.Word.TheVariants as word
use Rattle.eval_store.specs.declared.object.Instance.{Instance}
use Rattle.eval_store.specs.declared.store.Store.{Store}
use Rattle.eval_store.specs.declared.store.Halt.{Halt}
use Rattle.eval_store.specs.declared.store.Halt.TheVariants.{NoMemory}
use Rattle.eval_store.specs.Spelling.{IsSpelling}
use Rattle.eval_store.specs.Words.{value_of_word, values_of}
use Rattle.eval_store.specs.View.{Beside, state_of, seen, limit_of}
use Rattle.eval_primitives.specs.declared.answer.Answer.{Answer}
use Rattle.eval_primitives.specs.declared.answer.Answer.TheVariants.{Gives, Fails, DomainError}
use Rattle.eval_primitives.specs.declared.searching.Walk.{Walk}
use Rattle.eval_primitives.specs.declared.primitives.Primitives.{Primitives}
use Rattle.eval_primitives.specs.declared.words.Spelt.{Spelt as SpeltWord}
use Rattle.eval_primitives.specs.declared.words.Spelt.TheVariants as spelt
use Rattle.eval_primitives.specs.Answers.{told, carried_out, carried, state_after, AnswersAs, IsSaid, IsCount}
use Rattle.eval_primitives.specs.Objects.{HasClass, HasInstance}
use Rattle.eval_primitives.specs.Words.{HasSymbol, spelt_of}
use Rattle.eval_primitives.specs.Classing.{HasClassOf}
use Rattle.eval_primitives.specs.Searching.{IsWalk}
use Rattle.eval_primitives.specs.Charging.{IsCharged, AreUnitsSpent, IsPlaceTold, IsNoPlaceTold}
use Rattle.eval_primitives.specs.Computed.{IsFitted, IsAlwaysComputed, HasWalk, IsNamed, IsSlotPast, IsSlotFound, IsSlotMissing, HasPlace, IsSubclassTold}
use Rattle.eval_primitives.proofs.Placing.{carried_told}
use Rattle.eval_primitives.proofs.Looking.{read_computed, same_answer}

-- counting

pub counted_passed : (n : ℕ) (s t : Store) → ((names : List (List ℕ)) (b : Beside) → gives nil (charged n (seen names s b)) ≡ gives nil (seen names t b)) → IsCharged n s t
counted_passed n s t h = record { after = λ names b. ap (λ (e : FlatEvaluated). e.state) (sym (h names b)) }

-- an answer behind a charge
charged_comes : (names : List (List ℕ)) (limit : Option ℕ) (s t : Store) (b : Beside) (a : Answer) (n : ℕ) → IsCharged n s t
    → carried_out (limit_of limit) (told names a (base.charged n (state_of names s b))) (seen names s b) ≡ carried names a (seen names t b)
charged_comes names limit s t b a n x =
    ap (λ (z : FlatState). carried_out (limit_of limit) (told names a z.state) (seen names s b)) (sym (x.after names b))
    ∙ carried_told names (limit_of limit) a (seen names s b) (seen names t b)
    (x.after names b ∙ ap (λ (z : FlatState). record (seen names s b) { state = z.state }) (sym (x.after names b)))

-- the state of an answer
told_state : (names : List (List ℕ)) (limit : Option ℕ) (a : Answer) (y : State) (z : FlatState) → (state_after (carried_out (limit_of limit) (told names a y) z)).state ≡ y
told_state names limit (Gives w) y z = refl
told_state names limit (Fails c) y z = refl
told_state names limit (DomainError w c) y z = refl

spent_comes : (names : List (List ℕ)) (limit : Option ℕ) (s t : Store) (b : Beside) (a : Answer) (n : ℕ) (h : Halt) → AreUnitsSpent n s h
    → AnswersAs names (Err h) (seen names t b) (carried_out (limit_of limit) (told names a (base.charged n (state_of names s b))) (seen names s b))
spent_comes names limit s t b a n h x =
    let P : Halt → Type 0 = λ k. AnswersAs names (Err k) (seen names t b) (carried_out (limit_of limit) (told names a (base.charged n (state_of names s b))) (seen names s b)) in
    subst P (sym x.halt)
    (let Q : State → Type 0 = λ y. 2 ^ 64 ≤ y.peak + y.units + y.symbols + 1 in
    subst Q (sym (told_state names limit a (base.charged n (state_of names s b)) (seen names s b))) (let u : 2 ^ 64 ≤ (seen names s b).state.units + n = x.units names b in omega arith))

-- t or nil, as an answer
abbrev truth_answer : Bool → Answer
truth_answer r = if r then Gives word.True else Gives word.Nil

says_told : (names : List (List ℕ)) (r : Bool) (z : State) → says r z ≡ told names (truth_answer r) z
says_told names true z = refl
says_told names false z = refl

-- classes above others

pub walked : (p : Primitives) (c d : ℕ) (row : ClassRow) (w : Walk) → slice_get p.program.now.classes c ≡ Some row → IsWalk row.precedence d w → HasWalk p c d w
walked p c d row w e x = record {
  found = λ names rows f. rw (← f.program, e) (sym x.found);
  passed = λ names rows f. rw (← f.program, e) (sym x.passed);
}

pub nothing_walked : (p : Primitives) (c d : ℕ) → length p.program.now.classes ≤ c → HasWalk p c d (record { found = false; passed = 0 })
nothing_walked p c d h =
    let none : slice_get p.program.now.classes c ≡ None = slice_get_past p.program.now.classes c h in
    record { found = λ names rows f. rw (← f.program, none) refl; passed = λ names rows f. rw (← f.program, none) refl }

below_form : (p : Primitives) (c d : ℕ) (w : Walk) → HasWalk p c d w → (names : List (List ℕ)) (rows : ProgramRows) → IsFitted names rows p → (z : State)
    → says (is_below rows c d) (base.charged (passed (λ e. d == e) (precedence rows c)) z) ≡ says w.found (base.charged w.passed z)
below_form p c d w h names rows f z =
    ap (λ r. says r (base.charged (passed (λ e. d == e) (precedence rows c)) z)) (h.found names rows f) ∙ ap (λ n. says w.found (base.charged n z)) (h.passed names rows f)

pub below_found : (p : Primitives) (c d : ℕ) (w : Walk) (s t : Store) (a : Answer) → HasWalk p c d w → IsCharged w.passed s t → IsSaid w.found a → IsSubclassTold p c d s t (Ok a)
below_found p c d w s t a h x y = record {
  comes = λ names rows b limit f.
      same_answer names limit s t b (Ok a) (says (is_below rows c d) (base.charged (passed (λ e. d == e) (precedence rows c)) (state_of names s b)))
      (told names a (base.charged w.passed (state_of names s b)))
      (below_form p c d w h names rows f (state_of names s b) ∙ y.told names (base.charged w.passed (state_of names s b)))
      (charged_comes names limit s t b a w.passed x);
}

pub below_spent : (p : Primitives) (c d : ℕ) (w : Walk) (s t : Store) (h : Halt) → HasWalk p c d w → AreUnitsSpent w.passed s h → IsSubclassTold p c d s t (Err h)
below_spent p c d w s t h x y = record {
  comes = λ names rows b limit f.
      same_answer names limit s t b (Err h) (says (is_below rows c d) (base.charged (passed (λ e. d == e) (precedence rows c)) (state_of names s b)))
      (told names (truth_answer w.found) (base.charged w.passed (state_of names s b)))
      (below_form p c d w x names rows f (state_of names s b) ∙ says_told names w.found (base.charged w.passed (state_of names s b)))
      (spent_comes names limit s t b (truth_answer w.found) w.passed h y);
}

pub subclass_found : (p : Primitives) (s t : Store) (w v : Word) (c d : ℕ) (r : Result Answer Halt) → HasClass s w (Some c) → HasClass s v (Some d) → IsSubclassTold p c d s t r
    → IsAlwaysComputed p the.IsSubclass (w ∷ v ∷ []) s t r
subclass_found p s t w v c d r h k x = record { always = λ limit. record { comes = λ names rows b f. rw (h.seen names b, k.seen names b) (x.comes names rows b limit f) } }

pub no_first_class : (p : Primitives) (s : Store) (w v : Word) → HasClass s w None → IsAlwaysComputed p the.IsSubclass (w ∷ v ∷ []) s s (Ok (DomainError w 16))
no_first_class p s w v h = record { always = λ limit. read_computed p limit the.IsSubclass (w ∷ v ∷ []) s (DomainError w 16) (record { told = λ names rows b f. rw (h.seen names b) refl }) }

pub no_second_class : (p : Primitives) (s : Store) (w v : Word) (c : ℕ) → HasClass s w (Some c) → HasClass s v None
    → IsAlwaysComputed p the.IsSubclass (w ∷ v ∷ []) s s (Ok (DomainError v 16))
no_second_class p s w v c h k = record { always = λ limit. read_computed p limit the.IsSubclass (w ∷ v ∷ []) s (DomainError v 16) (record { told = λ names rows b f. rw (h.seen names b, k.seen names b) refl }) }

instance_form : (names : List (List ℕ)) (rows : ProgramRows) (s : Store) (b : Beside) (w v : Word) (d : ℕ) → HasClass s v (Some d)
    → primitive names rows the.IsInstance (values_of names (w ∷ v ∷ [])) (state_of names s b)
    ≡ says (is_below rows (class_of (state_of names s b) (value_of_word names w)) d) (base.charged (passed (λ e. d == e) (precedence rows (class_of (state_of names s b) (value_of_word names w)))) (state_of names s b))
instance_form names rows s b w v d k = rw (k.seen names b) refl

pub instance_found : (p : Primitives) (s t : Store) (w v : Word) (c d : ℕ) (r : Result Answer Halt) → HasClassOf s w c → HasClass s v (Some d) → IsSubclassTold p c d s t r
    → IsAlwaysComputed p the.IsInstance (w ∷ v ∷ []) s t r
instance_found p s t w v c d r h k x = record {
  always = λ limit. record {
    comes = λ names rows b f.
        same_answer names limit s t b r (primitive names rows the.IsInstance (values_of names (w ∷ v ∷ [])) (state_of names s b))
        (says (is_below rows c d) (base.charged (passed (λ e. d == e) (precedence rows c)) (state_of names s b)))
        (instance_form names rows s b w v d k
        ∙ ap (λ q. says (is_below rows q d) (base.charged (passed (λ e. d == e) (precedence rows q)) (state_of names s b))) (h.seen names b))
        (x.comes names rows b limit f);
  };
}

pub no_class_of_instance : (p : Primitives) (s : Store) (w v : Word) → HasClass s v None → IsAlwaysComputed p the.IsInstance (w ∷ v ∷ []) s s (Ok (DomainError v 16))
no_class_of_instance p s w v k = record { always = λ limit. read_computed p limit the.IsInstance (w ∷ v ∷ []) s (DomainError v 16) (record { told = λ names rows b f. rw (k.seen names b) refl }) }

-- slots by their names

turned : (a b : List ℕ) → bytes_eq a b ≡ bytes_eq b a
turned a b =
    same_from_decides {P = a ≡ b} (bytes_eq a b) (bytes_eq b a) (bytes_eq-Decides a b)
    (λ h. sym ((bytes_eq-Decides b a).0 h), λ e. (bytes_eq-Decides b a).1 (sym e))

pub slot_named : (p : Primitives) (n : Name) (row : SlotRow) (r : Bool)
    → ((names : List (List ℕ)) → IsSpelling names p.spellings → r ≡ bytes_eq (text names n.0) (text names row.name.0)) → IsNamed p (spelt.Named n) row r
slot_named p n row r h = record { seen = λ names rows f. sym (h names f.spelling) }

pub slot_named_true : (p : Primitives) (row : SlotRow) (r : Bool)
    → ((names : List (List ℕ)) → IsSpelling names p.spellings → r ≡ bytes_eq (text names row.name.0) (116 ∷ [])) → IsNamed p spelt.Truth row r
slot_named_true p row r h = record { seen = λ names rows f. turned (116 ∷ []) (text names row.name.0) ∙ sym (h names f.spelling) }

pub slot_named_nil : (p : Primitives) (row : SlotRow) (r : Bool) → r ≡ bytes_eq (text p.names.now row.name.0) (110 ∷ 105 ∷ 108 ∷ []) → IsNamed p spelt.Nothing row r
slot_named_nil p row r h = record {
  seen = λ names rows f. turned (110 ∷ 105 ∷ 108 ∷ []) (text names row.name.0) ∙ sym (h ∙ ap (λ ns. bytes_eq (text ns row.name.0) (110 ∷ 105 ∷ 108 ∷ [])) f.known);
}

pub nil_told : (names : List (List ℕ)) (n : ℕ) (bytes other : List ℕ) (r : Bool) → slice_get names n ≡ Some bytes → other ≡ 110 ∷ 105 ∷ 108 ∷ [] → r ≡ bytes_eq bytes other
    → r ≡ bytes_eq (text names n) (110 ∷ 105 ∷ 108 ∷ [])
nil_told names n bytes other r at nil_text e = e ∙ rw (get_or_from_slice_get names n bytes [] at, nil_text) refl

pub nil_untold : (names : List (List ℕ)) (n : ℕ) → length names ≤ n → false ≡ bytes_eq (text names n) (110 ∷ 105 ∷ 108 ∷ [])
nil_untold names n h = rw (get_or_past names n [] h) refl

-- a row where it stands among others
pub located : (items rows : List SlotRow) (at : ℕ) (row : SlotRow) → items ≡ rows → at < length items → row ≡ get_or items at row → (at < length rows) × (row ≡ get_or rows at row)
located items rows at row same below e =
    let P : List SlotRow → Type 0 = λ xs. (at < length xs) × (row ≡ get_or xs at row) in
    subst P same (below, e)

pub slot_unnamed : (p : Primitives) (n : ℕ) (row : SlotRow) → IsNamed p (spelt.Fresh n) row false
slot_unnamed p n row = record { seen = λ names rows f. refl }

pub slots_before : (p : Primitives) (x : SpeltWord) (rows : List SlotRow) → IsSlotPast p x rows 0
slots_before p x rows = record { seen = λ names program f. sym (zero-add _) }

step : {X : Type 0} (xs : List X) (at : ℕ) (x : X) → at < length xs → x ≡ get_or xs at x → drop at xs ≡ x ∷ drop (at + 1) xs
step xs at x h e = drop-cons xs at x h ∙ rw (add-one at, ← e) refl

pub slot_passed : (p : Primitives) (x : SpeltWord) (rows : List SlotRow) (at : ℕ) (row : SlotRow) → IsSlotPast p x rows at → at < length rows → row ≡ get_or rows at row → IsNamed p x row false
    → IsSlotPast p x rows (at + 1)
slot_passed p x rows at row h below e other = record {
  seen = λ names program f. h.seen names program f ∙ rw (step rows at row below e, other.seen names program f) (omega arith);
}

pub slot_found : (p : Primitives) (x : SpeltWord) (rows : List SlotRow) (at : ℕ) (row : SlotRow) → IsSlotPast p x rows at → at < length rows → row ≡ get_or rows at row → IsNamed p x row true
    → IsSlotFound p x rows at
slot_found p x rows at row h below e same = record {
  inside = below;
  seen = λ names program f. h.seen names program f ∙ rw (step rows at row below e, same.seen names program f) (omega arith);
}

pub slot_missing : (p : Primitives) (x : SpeltWord) (rows : List SlotRow) (at : ℕ) → IsSlotPast p x rows at → at ≡ length rows → IsSlotMissing p x rows
slot_missing p x rows at h e = record {
  seen = λ names program f. h.seen names program f ∙ rw (drop_all at rows (omega (arith, e))) (omega (arith, e));
}

-- places of slots

pub place_told : (at : ℕ) (s t : Store) (a : Answer) → IsCount at a → IsCharged (at + 1) s t → IsPlaceTold at s t (Ok a)
place_told at s t a h x = record {
  comes = λ names b limit.
      same_answer names limit s t b (Ok a) (meaning.result (integer (pos at)) (base.charged (at + 1) (state_of names s b))) (told names a (base.charged (at + 1) (state_of names s b)))
      (sym (h.told names (base.charged (at + 1) (state_of names s b)))) (charged_comes names limit s t b a (at + 1) x);
}

pub place_spent : (at : ℕ) (s t : Store) (h : Halt) → AreUnitsSpent (at + 1) s h → IsPlaceTold at s t (Err h)
place_spent at s t h x = record { comes = λ names b limit. spent_comes names limit s t b (Gives (word.Integer (pos at))) (at + 1) h x }

pub place_unsaid : (at : ℕ) (s t : Store) → IsPlaceTold at s t (Err NoMemory)
place_unsaid at s t = record { comes = λ names b limit. tt }

pub no_place_told : (n : ℕ) (s t : Store) → IsCharged n s t → IsNoPlaceTold n s t (Ok (Fails 24))
no_place_told n s t x = record { comes = λ names b limit. charged_comes names limit s t b (Fails 24) n x }

pub no_place_spent : (n : ℕ) (s t : Store) (h : Halt) → AreUnitsSpent n s h → IsNoPlaceTold n s t (Err h)
no_place_spent n s t h x = record { comes = λ names b limit. spent_comes names limit s t b (Fails 24) n h x }

-- the meaning's place of a slot
place_form : (xs : List SlotRow) (q : SlotRow → Bool) (at : ℕ) (z : State) → position_or_len q xs ≡ at → at < length xs
    → slot_place xs q z ≡ meaning.result (integer (pos at)) (base.charged (at + 1) z)
place_form xs q at z e h = let test : nat_lt at (length xs) ≡ true = lt-ltb at (length xs) h in rw (e, test) refl

no_place_form : (xs : List SlotRow) (q : SlotRow → Bool) (n : ℕ) (z : State) → position_or_len q xs ≡ length xs → n ≡ length xs
    → slot_place xs q z ≡ program_error (base.charged n z)
no_place_form xs q n z e len = let test : nat_lt (length xs) (length xs) ≡ false = le-ltb (length xs) (length xs) (omega arith) in rw (e, test, len) refl

slots_at : (p : Primitives) (c : ℕ) (row : ClassRow) → slice_get p.program.now.classes c ≡ Some row → (names : List (List ℕ)) (rows : ProgramRows) → IsFitted names rows p → slots rows c ≡ row.slots
slots_at p c row e names rows f = rw (← f.program, e) refl

pub place_there : (p : Primitives) (c at : ℕ) (x : SpeltWord) (row : ClassRow) (s t : Store) (r : Result Answer Halt) → slice_get p.program.now.classes c ≡ Some row
    → IsSlotFound p x row.slots at → IsPlaceTold at s t r → HasPlace p c x s t r
place_there p c at x row s t r e h told = record {
  comes = λ names rows b limit f.
      same_answer names limit s t b r (slot_place (slots rows c) (is_slot names (spelt_of names x)) (state_of names s b)) (meaning.result (integer (pos at)) (base.charged (at + 1) (state_of names s b)))
      (ap (λ xs. slot_place xs (is_slot names (spelt_of names x)) (state_of names s b)) (slots_at p c row e names rows f)
      ∙ place_form row.slots (is_slot names (spelt_of names x)) at (state_of names s b) (h.seen names rows f) h.inside)
      (told.comes names b limit);
}

pub place_missing : (p : Primitives) (c n : ℕ) (x : SpeltWord) (row : ClassRow) (s t : Store) (r : Result Answer Halt) → slice_get p.program.now.classes c ≡ Some row
    → IsSlotMissing p x row.slots → n ≡ length row.slots → IsNoPlaceTold n s t r → HasPlace p c x s t r
place_missing p c n x row s t r e h len told = record {
  comes = λ names rows b limit f.
      same_answer names limit s t b r (slot_place (slots rows c) (is_slot names (spelt_of names x)) (state_of names s b)) (program_error (base.charged n (state_of names s b)))
      (ap (λ xs. slot_place xs (is_slot names (spelt_of names x)) (state_of names s b)) (slots_at p c row e names rows f)
      ∙ no_place_form row.slots (is_slot names (spelt_of names x)) n (state_of names s b) (h.seen names rows f) len)
      (told.comes names b limit);
}

pub class_missing : (p : Primitives) (c : ℕ) (x : SpeltWord) (s t : Store) (r : Result Answer Halt) → length p.program.now.classes ≤ c
    → IsNoPlaceTold 0 s t r → HasPlace p c x s t r
class_missing p c x s t r h told =
    let none : slice_get p.program.now.classes c ≡ None = slice_get_past p.program.now.classes c h in
    record {
      comes = λ names rows b limit f.
          same_answer names limit s t b r (slot_place (slots rows c) (is_slot names (spelt_of names x)) (state_of names s b)) (program_error (base.charged 0 (state_of names s b)))
          (ap (λ xs. slot_place xs (is_slot names (spelt_of names x)) (state_of names s b)) (none_at none names rows f))
          (told.comes names b limit);
    }
  where
    none_at : slice_get p.program.now.classes c ≡ None → (names : List (List ℕ)) (rows : ProgramRows) → IsFitted names rows p → slots rows c ≡ []
    none_at none names rows f = rw (← f.program, none) refl

place_answer : (names : List (List ℕ)) (rows : ProgramRows) (s : Store) (b : Beside) (w v : Word) (i : Instance) (x : SpeltWord) → HasInstance s w (Some i) → HasSymbol s v (Some x)
    → primitive names rows the.SlotPlace (values_of names (w ∷ v ∷ [])) (state_of names s b) ≡ slot_place (slots rows i.class) (is_slot names (spelt_of names x)) (state_of names s b)
place_answer names rows s b w v i x h k = rw (h.seen names b, k.seen names b) refl

pub place_found : (p : Primitives) (s t : Store) (w v : Word) (i : Instance) (x : SpeltWord) (r : Result Answer Halt) → HasInstance s w (Some i) → HasSymbol s v (Some x)
    → HasPlace p i.class x s t r → IsAlwaysComputed p the.SlotPlace (w ∷ v ∷ []) s t r
place_found p s t w v i x r h k y = record {
  always = λ limit. record {
    comes = λ names rows b f.
        same_answer names limit s t b r (primitive names rows the.SlotPlace (values_of names (w ∷ v ∷ [])) (state_of names s b)) (slot_place (slots rows i.class) (is_slot names (spelt_of names x)) (state_of names s b))
        (place_answer names rows s b w v i x h k) (y.comes names rows b limit f);
  };
}

pub no_instance_place : (p : Primitives) (s : Store) (w v : Word) → HasInstance s w None → IsAlwaysComputed p the.SlotPlace (w ∷ v ∷ []) s s (Ok (DomainError w 17))
no_instance_place p s w v h = record { always = λ limit. read_computed p limit the.SlotPlace (w ∷ v ∷ []) s (DomainError w 17) (record { told = λ names rows b f. rw (h.seen names b) refl }) }

pub no_symbol_place : (p : Primitives) (s : Store) (w v : Word) (i : Instance) → HasInstance s w (Some i) → HasSymbol s v None
    → IsAlwaysComputed p the.SlotPlace (w ∷ v ∷ []) s s (Ok (DomainError v 10))
no_symbol_place p s w v i h k = record { always = λ limit. read_computed p limit the.SlotPlace (w ∷ v ∷ []) s (DomainError v 10) (record { told = λ names rows b f. rw (h.seen names b, k.seen names b) refl }) }
