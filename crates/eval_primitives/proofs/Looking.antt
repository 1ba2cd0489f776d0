-- What primitives give that look at the program.
use Rattle.std.proofs.Common.{◌≡◌, ℕ, arith, ◌<◌, ◌≤◌, Bool, true, false, not, ◌&&◌, ◌||◌, List, [], ◌∷◌, length, Option, Some, None, Result, Ok, Err, refl, sym, ◌∙◌, ap, subst}
use Rattle.std.specs.Prelude.{slice_get, nat_le, leb, if◌then◌else◌}
use Rattle.std.proofs.lemmas.Bool.{le-leb, lt-leb}
use Rattle.std.proofs.lemmas.Option.{get_or_from_slice_get, slice_get_past}
use Rattle.std.proofs.lemmas.List.{get_or_past}
use Rattle.base.specs.declared.datum.Name.{Name}
use Rattle.lang_meaning.specs.declared.primitive.Primitive.TheVariants as the
use Rattle.lang_meaning.specs.declared.primitive.Primitive.{Primitive}
use Rattle.lang_meaning.specs.declared.program.ProgramRows.{ProgramRows}
use Rattle.lang_meaning.specs.declared.program.ClassRow.{ClassRow}
use Rattle.lang_meaning.specs.Values.{Value}
use Rattle.lang_meaning.specs.Objects.{serious_condition_class}
use Rattle.lang_meaning.specs.State.{State}
use Rattle.lang_meaning.specs.Lookup.{text}
use Rattle.lang_meaning.specs.Classes.{is_condition, is_below, slots}
use Rattle.lang_meaning.specs.Primitives.{makes, makes_string, instance_words, can_be_made, is_abstract, class_name, primitive}
use Rattle.lang_meaning.specs.Primitives as meaning
use Rattle.eval_store.specs.declared.word.Word.{Word}
use Rattle.eval_store.specs.declared.word.Word.TheVariants as word
use Rattle.eval_store.specs.declared.object.Instance.{Instance}
use Rattle.eval_store.specs.declared.store.Store.{Store}
use Rattle.eval_store.specs.declared.store.Halt.{Halt}
use Rattle.eval_store.specs.declared.store.Halt.TheVariants.{NoMemory}
use Rattle.eval_store.specs.Words.{value_of_word, values_of}
use Rattle.eval_store.specs.View.{Beside, state_of, seen, limit_of}
use Rattle.eval_primitives.specs.declared.answer.Answer.{Answer}
use Rattle.eval_primitives.specs.declared.answer.Answer.TheVariants.{Gives, Fails, DomainError}
use Rattle.eval_primitives.specs.declared.primitives.Primitives.{Primitives}
use Rattle.eval_primitives.specs.declared.words.Spelt.{Spelt as SpeltWord}
use Rattle.eval_primitives.specs.declared.words.Spelt.TheVariants as spelt
use Rattle.eval_primitives.specs.Answers.{carried_out, AnswersAs}
use Rattle.eval_primitives.specs.Objects.{HasClass, HasInstance}
use Rattle.eval_primitives.specs.Words.{HasSymbol, spelt_of}
use Rattle.eval_primitives.specs.Done.{IsPrimitiveDone, Brings, unbound}
use Rattle.eval_primitives.specs.Naming.{IsNameOf, IsTextOf, text_of}
use Rattle.eval_primitives.specs.Computed.{IsFitted, IsReadBy, IsComputed, IsSerious, HasSlots}
use Rattle.eval_primitives.proofs.Placing.{carried_told}

-- what is read comes to that
pub read_computed : (p : Primitives) (limit : Option ℕ) (which : Primitive) (ws : List Word) (s : Store) (a : Answer) → IsReadBy p which ws s a → IsComputed p limit which ws s s (Ok a)
read_computed p limit which ws s a x = record {
  comes = λ names rows b f.
      ap (λ y. carried_out (limit_of limit) y (seen names s b)) (x.told names rows b f) ∙ carried_told names (limit_of limit) a (seen names s b) (seen names s b) refl;
}

pub done_computed : (p : Primitives) (limit : Option ℕ) (which : Primitive) (ws : List Word) (s t : Store) (r : Result Answer Halt) → IsPrimitiveDone limit which ws s t r → IsComputed p limit which ws s t r
done_computed p limit which ws s t r x = record { comes = λ names rows b f. x.comes names rows b }

-- names of classes
pub class_named : (p : Primitives) (s : Store) (w v : Word) (c : ℕ) → HasClass s w (Some c) → IsNameOf p c v → IsReadBy p the.ClassName (w ∷ []) s (Gives v)
class_named p s w v c h x = record { told = λ names rows b f. rw (h.seen names b) (ap (λ (u : Value). meaning.result u (state_of names s b)) (sym (x.seen names rows f))) }

pub no_class_named : (p : Primitives) (s : Store) (w : Word) → HasClass s w None → IsReadBy p the.ClassName (w ∷ []) s (DomainError w 16)
no_class_named p s w h = record { told = λ names rows b f. rw (h.seen names b) refl }

pub name_there : (p : Primitives) (c : ℕ) (row : ClassRow) → slice_get p.program.now.classes c ≡ Some row → IsNameOf p c (word.Symbol row.name)
name_there p c row e = record { seen = λ names rows f. rw (← f.program, e) refl }

pub name_past : (p : Primitives) (c n : ℕ) → n ≡ length p.names.now → length p.program.now.classes ≤ c → IsNameOf p c (word.Symbol (record { 0 = n }))
name_past p c n e h = record {
  seen = λ names rows f.
      let none : slice_get p.program.now.classes c ≡ None = slice_get_past p.program.now.classes c h in
      let empty : text names n ≡ [] = get_or_past names n [] (rw (e, f.known) (omega arith)) in
      rw (← f.program, none, empty) refl;
}

-- marks
pub mark_read : (p : Primitives) (s : Store) (w : Word) (i : Instance) (r : Bool)
    → ((names : List (List ℕ)) (rows : ProgramRows) (b : Beside) → IsFitted names rows p → r ≡ is_condition rows (state_of names s b) (value_of_word names w))
    → r ≡ true → HasInstance s w (Some i) → IsReadBy p the.Continuable (w ∷ []) s (Gives i.mark)
mark_read p s w i r h e x = record { told = λ names rows b f. rw (sym (h names rows b f) ∙ e, x.seen names b) refl }

pub no_mark : (p : Primitives) (s : Store) (w : Word) (r : Bool)
    → ((names : List (List ℕ)) (rows : ProgramRows) (b : Beside) → IsFitted names rows p → r ≡ is_condition rows (state_of names s b) (value_of_word names w))
    → r ≡ true → HasInstance s w None → IsReadBy p the.Continuable (w ∷ []) s (DomainError w 17)
no_mark p s w r h e x = record { told = λ names rows b f. rw (sym (h names rows b f) ∙ e, x.seen names b) refl }

pub no_condition : (p : Primitives) (s : Store) (w : Word) (r : Bool)
    → ((names : List (List ℕ)) (rows : ProgramRows) (b : Beside) → IsFitted names rows p → r ≡ is_condition rows (state_of names s b) (value_of_word names w))
    → r ≡ false → IsReadBy p the.Continuable (w ∷ []) s (DomainError w 18)
no_condition p s w r h e = record { told = λ names rows b f. rw (sym (h names rows b f) ∙ e) refl }

-- texts of symbols
pub named_text : (p : Primitives) (n : Name) (bytes : List ℕ) → slice_get p.names.now n.0 ≡ Some bytes → IsTextOf p (spelt.Named n) bytes
named_text p n bytes e = record { seen = λ names rows f. sym (get_or_from_slice_get names n.0 bytes [] (rw (← f.known) e)) }

pub no_text : (p : Primitives) (n : Name) → length p.names.now ≤ n.0 → IsTextOf p (spelt.Named n) []
no_text p n h = record { seen = λ names rows f. sym (get_or_past names n.0 [] (rw (← f.known) h)) }

pub truth_text : (p : Primitives) → IsTextOf p spelt.Truth (116 ∷ [])
truth_text p = record { seen = λ names rows f. refl }

pub nil_text : (p : Primitives) → IsTextOf p spelt.Nothing (110 ∷ 105 ∷ 108 ∷ [])
nil_text p = record { seen = λ names rows f. refl }

pub fresh_text : (p : Primitives) (n : ℕ) → IsTextOf p (spelt.Fresh n) []
fresh_text p n = record { seen = λ names rows f. refl }

symbol_form : (names : List (List ℕ)) (rows : ProgramRows) (z : State) (v : Value) (x : meaning.Spelt) → meaning.as_symbol z v ≡ Some x
    → primitive names rows the.SymbolName (v ∷ []) z ≡ makes_string (text_of x) z
symbol_form names rows z v (meaning.by_name name) e = rw e refl
symbol_form names rows z v (meaning.by_serial serial) e = rw e refl

-- an answer that is another one in the meaning's words
pub same_answer : (names : List (List ℕ)) (limit : Option ℕ) (s t : Store) (b : Beside) (r : Result Answer Halt) (x y : meaning.Answer) → x ≡ y
    → AnswersAs names r (seen names t b) (carried_out (limit_of limit) y (seen names s b)) → AnswersAs names r (seen names t b) (carried_out (limit_of limit) x (seen names s b))
same_answer names limit s t b r x y e h =
    let P : meaning.Answer → Type 0 = λ u. AnswersAs names r (seen names t b) (carried_out (limit_of limit) u (seen names s b)) in
    subst P (sym e) h

pub name_brought : (p : Primitives) (limit : Option ℕ) (s t : Store) (w : Word) (x : SpeltWord) (bytes : List ℕ) (r : Result Answer Halt)
    → HasSymbol s w (Some x) → IsTextOf p x bytes → Brings limit (λ names. makes_string bytes) s t r → IsComputed p limit the.SymbolName (w ∷ []) s t r
name_brought p limit s t w x bytes r h is brings = record {
  comes = λ names rows b f.
      same_answer names limit s t b r (primitive names rows the.SymbolName (values_of names (w ∷ [])) (state_of names s b)) (makes_string bytes (state_of names s b))
      (symbol_form names rows (state_of names s b) (value_of_word names w) (spelt_of names x) (h.seen names b) ∙ ap (λ u. makes_string u (state_of names s b)) (sym (is.seen names rows f)))
      (brings.comes names b);
}

pub no_name : (p : Primitives) (limit : Option ℕ) (s : Store) (w : Word) → HasSymbol s w None → IsComputed p limit the.SymbolName (w ∷ []) s s (Ok (DomainError w 10))
no_name p limit s w h = read_computed p limit the.SymbolName (w ∷ []) s (DomainError w 10) (record { told = λ names rows b f. rw (h.seen names b) refl })

-- how many slots there are to make
pub no_class_slots : (p : Primitives) (c : ℕ) → length p.program.now.classes ≤ c → HasSlots p c None
no_class_slots p c h = record { seen = λ names rows f. let none : slice_get p.program.now.classes c ≡ None = slice_get_past p.program.now.classes c h in rw (← f.program, none) refl }

pub abstract_slots : (p : Primitives) (c : ℕ) (row : ClassRow) → slice_get p.program.now.classes c ≡ Some row → row.abstract_class ≡ true → HasSlots p c None
abstract_slots p c row e a = record { seen = λ names rows f. rw (← f.program, e, a) refl }

open_slots : (p : Primitives) (c : ℕ) (row : ClassRow) (x : Bool) → slice_get p.program.now.classes c ≡ Some row → row.abstract_class ≡ false
    → ((names : List (List ℕ)) (rows : ProgramRows) → IsFitted names rows p → (nat_le 34 c || is_below rows c serious_condition_class) ≡ x)
    → HasSlots p c (if x then Some (length row.slots) else None)
open_slots p c row x e a test = record {
  seen = λ names rows f.
      let at : slice_get rows.classes c ≡ Some row = rw (← f.program) e in
      let made : not (is_abstract (slice_get rows.classes c)) ≡ true = rw (at, a) refl in
      let can : can_be_made rows c ≡ x = ap (λ u. u && (nat_le 34 c || is_below rows c serious_condition_class)) made ∙ test names rows f in
      rw can (rw at refl);
}

pub file_slots : (p : Primitives) (c n : ℕ) (row : ClassRow) → slice_get p.program.now.classes c ≡ Some row → row.abstract_class ≡ false → 34 ≤ c → n ≡ length row.slots → HasSlots p c (Some n)
file_slots p c n row e a h len = rw len (open_slots p c row true e a (λ names rows f. let test : leb 34 c ≡ true = le-leb 34 c h in rw test refl))

pub condition_slots : (p : Primitives) (c n : ℕ) (row : ClassRow) → slice_get p.program.now.classes c ≡ Some row → row.abstract_class ≡ false → c < 34 → IsSerious p c true → n ≡ length row.slots → HasSlots p c (Some n)
condition_slots p c n row e a h x len = rw len (open_slots p c row true e a (λ names rows f. let test : leb 34 c ≡ false = lt-leb 34 c h in rw test (x.seen names rows f)))

pub built_in_slots : (p : Primitives) (c : ℕ) (row : ClassRow) → slice_get p.program.now.classes c ≡ Some row → row.abstract_class ≡ false → c < 34 → IsSerious p c false → HasSlots p c None
built_in_slots p c row e a h x = open_slots p c row false e a (λ names rows f. let test : leb 34 c ≡ false = lt-leb 34 c h in rw test (x.seen names rows f))

-- new instances
chosen : (b : Bool) (n count : ℕ) (f : ℕ → meaning.Answer) (y : meaning.Answer) → (if b then Some n else None) ≡ Some count → (if b then f n else y) ≡ f count
chosen true n count f y e = let same : n ≡ count = cc in ap f same
chosen false n count f y e = absurd (cc)

not_chosen : (b : Bool) (n : ℕ) (f : ℕ → meaning.Answer) (y : meaning.Answer) → (if b then Some n else None) ≡ None → (if b then f n else y) ≡ y
not_chosen true n f y e = absurd (cc)
not_chosen false n f y e = refl

-- an instance of a class, made or not
abbrev instance_of_class : ProgramRows → ℕ → State → ℕ → meaning.Answer
instance_of_class rows c z n = makes (instance_words rows c n) 0 (unbound c n) z

allocate_form : (names : List (List ℕ)) (rows : ProgramRows) (s : Store) (b : Beside) (w : Word) (c : ℕ) → HasClass s w (Some c)
    → primitive names rows the.Allocate (values_of names (w ∷ [])) (state_of names s b)
    ≡ (if can_be_made rows c then instance_of_class rows c (state_of names s b) (length (slots rows c)) else meaning.program_error (state_of names s b))
allocate_form names rows s b w c h = rw (h.seen names b) refl

pub allocated : (p : Primitives) (limit : Option ℕ) (s t : Store) (w : Word) (c count words : ℕ) (r : Result Answer Halt)
    → HasClass s w (Some c) → HasSlots p c (Some count)
    → ((names : List (List ℕ)) (rows : ProgramRows) → IsFitted names rows p → words ≡ instance_words rows c count)
    → Brings limit (λ names. makes words 0 (unbound c count)) s t r → IsComputed p limit the.Allocate (w ∷ []) s t r
allocated p limit s t w c count words r h x is brings = record {
  comes = λ names rows b f.
      same_answer names limit s t b r (primitive names rows the.Allocate (values_of names (w ∷ [])) (state_of names s b)) (makes words 0 (unbound c count) (state_of names s b))
      (allocate_form names rows s b w c h
      ∙ chosen (can_be_made rows c) (length (slots rows c)) count (instance_of_class rows c (state_of names s b)) (meaning.program_error (state_of names s b)) (x.seen names rows f)
      ∙ ap (λ u. makes u 0 (unbound c count) (state_of names s b)) (sym (is names rows f)))
      (brings.comes names b);
}

pub cannot_be_made : (p : Primitives) (limit : Option ℕ) (s : Store) (w : Word) (c : ℕ) → HasClass s w (Some c) → HasSlots p c None
    → IsComputed p limit the.Allocate (w ∷ []) s s (Ok (Fails 24))
cannot_be_made p limit s w c h x = read_computed p limit the.Allocate (w ∷ []) s (Fails 24) (record {
  told = λ names rows b f.
      allocate_form names rows s b w c h
      ∙ not_chosen (can_be_made rows c) (length (slots rows c)) (instance_of_class rows c (state_of names s b)) (meaning.program_error (state_of names s b)) (x.seen names rows f);
})

pub no_class_to_make : (p : Primitives) (limit : Option ℕ) (s : Store) (w : Word) → HasClass s w None → IsComputed p limit the.Allocate (w ∷ []) s s (Ok (DomainError w 16))
no_class_to_make p limit s w h = read_computed p limit the.Allocate (w ∷ []) s (DomainError w 16) (record { told = λ names rows b f. rw (h.seen names b) refl })

pub no_memory_left : (p : Primitives) (limit : Option ℕ) (which : Primitive) (ws : List Word) (s t : Store) → IsComputed p limit which ws s t (Err NoMemory)
no_memory_left p limit which ws s t = record { comes = λ names rows b f. tt }
