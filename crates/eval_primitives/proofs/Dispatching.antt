-- All primitives by their groups.
use Rattle.std.proofs.Common.{◌≡◌, ℕ, Bool, false, List, [], ◌∷◌, length, Option, Result, Ok, Err, refl, sym, ◌∙◌, ap, subst}
use Rattle.std.proofs.lemmas.List.{length-map}
use Rattle.lang_meaning.specs.declared.primitive.Primitive.{Primitive}
use Rattle.lang_meaning.specs.declared.primitive.Primitive.TheVariants as the
use Rattle.lang_meaning.specs.declared.program.ProgramRows.{ProgramRows}
use Rattle.lang_meaning.specs.Values.{Value, nil, same}
use Rattle.lang_meaning.specs.State.{State}
use Rattle.lang_meaning.specs.InitialHeap.{class_value, initargs_value, initform_value, standard_input, standard_output}
use Rattle.lang_meaning.specs.Primitives.{primitive, says, of_none, of_one, of_two, of_three}
use Rattle.lang_meaning.specs.Primitives as meaning
use Rattle.eval_store.specs.declared.word.Word.{Word}
use Rattle.eval_store.specs.declared.word.Word.TheVariants as word
use Rattle.eval_store.specs.declared.object.Instance.{Instance}
use Rattle.eval_store.specs.declared.store.Store.{Store}
use Rattle.eval_store.specs.declared.store.Halt.{Halt}
use Rattle.eval_store.specs.declared.store.Halt.TheVariants.{NoMemory}
use Rattle.eval_store.specs.Spelling.{IsSpelling}
use Rattle.eval_store.specs.Words.{value_of_word, values_of}
use Rattle.eval_store.specs.View.{state_of}
use Rattle.eval_store.specs.InitialHeap.{IsInitialHeap}
use Rattle.eval_primitives.specs.declared.answer.Answer.{Answer}
use Rattle.eval_primitives.specs.declared.answer.Answer.TheVariants.{Gives}
use Rattle.eval_primitives.specs.declared.primitives.Primitives.{Primitives}
use Rattle.eval_primitives.specs.declared.group.Arithmetic.TheVariants as arithmetic
use Rattle.eval_primitives.specs.declared.group.Comparison.TheVariants as comparison
use Rattle.eval_primitives.specs.declared.group.KindTest.{KindTest}
use Rattle.eval_primitives.specs.declared.group.KindTest.TheVariants as kind
use Rattle.eval_primitives.specs.declared.group.PartAccess.TheVariants as part
use Rattle.eval_primitives.specs.declared.group.Length.TheVariants as lengths
use Rattle.eval_primitives.specs.declared.group.Element.TheVariants as element
use Rattle.eval_primitives.specs.declared.group.ElementSet.{ElementSet}
use Rattle.eval_primitives.specs.declared.group.ElementSet.TheVariants as element_set
use Rattle.eval_primitives.specs.declared.group.Search.TheVariants as searches
use Rattle.eval_primitives.specs.declared.group.Nullary.{Nullary}
use Rattle.eval_primitives.specs.declared.group.Nullary.TheVariants as zeros
use Rattle.eval_primitives.specs.declared.group.Unary.{Unary}
use Rattle.eval_primitives.specs.declared.group.Unary.TheVariants as one
use Rattle.eval_primitives.specs.declared.group.Binary.{Binary}
use Rattle.eval_primitives.specs.declared.group.Binary.TheVariants as two
use Rattle.eval_primitives.specs.declared.group.Stream.{Stream}
use Rattle.eval_primitives.specs.declared.group.Stream.TheVariants as stream
use Rattle.eval_primitives.specs.declared.group.Group.TheVariants as group
use Rattle.eval_primitives.specs.Groups.{kind_of, zero_of, one_of, two_of, element_set_of, stream_of, primitive_of, is_streaming}
use Rattle.eval_primitives.specs.Answers.{IsTold, IsSaid}
use Rattle.eval_primitives.specs.Reading.{IsRead, is_kind, IsOfKind, IsSlotAt, IsNoSlot}
use Rattle.eval_primitives.specs.Setting.{IsSet}
use Rattle.eval_primitives.specs.Done.{IsPrimitiveDone}
use Rattle.eval_primitives.specs.Classing.{HasClassOf}
use Rattle.eval_primitives.specs.Computed.{IsAlwaysComputed, IsReadBy, IsComputed}
use Rattle.eval_primitives.proofs.Placing.{told_done, read_done, set_done}
use Rattle.eval_primitives.proofs.Looking as looking

pub done_computed : (p : Primitives) (limit : Option ℕ) (which : Primitive) (ws : List Word) (s t : Store) (r : Result Answer Halt) → IsPrimitiveDone limit which ws s t r → IsComputed p limit which ws s t r
done_computed p limit which ws s t r x = looking.done_computed p limit which ws s t r x

pub set_computed : (p : Primitives) (limit : Option ℕ) (which : Primitive) (ws : List Word) (s t : Store) (a : Answer) → IsSet which ws s t a → IsComputed p limit which ws s t (Ok a)
set_computed p limit which ws s t a x = looking.done_computed p limit which ws s t (Ok a) (set_done limit which ws s t a x)

pub set_always : (p : Primitives) (which : Primitive) (ws : List Word) (s t : Store) (a : Answer) → IsSet which ws s t a → IsAlwaysComputed p which ws s t (Ok a)
set_always p which ws s t a x = record { always = λ limit. set_computed p limit which ws s t a x }

pub always_computed : (p : Primitives) (limit : Option ℕ) (which : Primitive) (ws : List Word) (s t : Store) (r : Result Answer Halt) → IsAlwaysComputed p which ws s t r → IsComputed p limit which ws s t r
always_computed p limit which ws s t r x = x.always limit

pub read_done_computed : (p : Primitives) (limit : Option ℕ) (which : Primitive) (ws : List Word) (s : Store) (a : Answer) → IsRead which ws s a → IsComputed p limit which ws s s (Ok a)
read_done_computed p limit which ws s a x = looking.done_computed p limit which ws s s (Ok a) (read_done limit which ws s a x)

pub told_computed : (p : Primitives) (limit : Option ℕ) (which : Primitive) (ws : List Word) (s : Store) (a : Answer) → IsTold which ws a → IsComputed p limit which ws s s (Ok a)
told_computed p limit which ws s a x = looking.done_computed p limit which ws s s (Ok a) (told_done limit which ws s a x)

pub read_by_computed : (p : Primitives) (limit : Option ℕ) (which : Primitive) (ws : List Word) (s : Store) (a : Answer) → IsReadBy p which ws s a → IsComputed p limit which ws s s (Ok a)
read_by_computed p limit which ws s a x = looking.read_computed p limit which ws s a x

pub unsaid_computed : (p : Primitives) (limit : Option ℕ) (which : Primitive) (ws : List Word) (s t : Store) → IsComputed p limit which ws s t (Err NoMemory)
unsaid_computed p limit which ws s t = looking.no_memory_left p limit which ws s t

-- what a value is
kind_form : (names : List (List ℕ)) (rows : ProgramRows) (k : KindTest) (v : Value) (z : State) → primitive names rows (kind_of k) (v ∷ []) z ≡ says (is_kind k z v) z
kind_form names rows kind.Null v z = refl
kind_form names rows w v z = refl

pub kind_computed : (p : Primitives) (limit : Option ℕ) (k : KindTest) (w : Word) (s : Store) (r : Bool) (a : Answer) → IsOfKind k s w r → IsSaid r a → IsComputed p limit (kind_of k) (w ∷ []) s s (Ok a)
kind_computed p limit k w s r a h x = read_done_computed p limit (kind_of k) (w ∷ []) s a (record {
  told = λ names rows b.
      kind_form names rows k (value_of_word names w) (state_of names s b) ∙ ap (λ q. says q (state_of names s b)) (h.seen names b) ∙ x.told names (state_of names s b);
})

-- whether two values are the same
pub same_computed : (p : Primitives) (limit : Option ℕ) (v w : Word) (s : Store) (r : Bool) (a : Answer)
    → ((names : List (List ℕ)) → IsSpelling names p.spellings → r ≡ same (value_of_word names v) (value_of_word names w)) → IsSaid r a
    → IsComputed p limit the.Same (v ∷ w ∷ []) s s (Ok a)
same_computed p limit v w s r a h x = read_by_computed p limit the.Same (v ∷ w ∷ []) s a (record {
  told = λ names rows b f. ap (λ q. says q (state_of names s b)) (sym (h names f.spelling)) ∙ x.told names (state_of names s b);
})

-- what stands in the initial heap
pub input_told : (p : Primitives) (limit : Option ℕ) (w : Word) (s : Store)
    → ((names : List (List ℕ)) (rows : ProgramRows) → IsInitialHeap names rows p.layout.now → value_of_word names w ≡ standard_input names rows)
    → IsComputed p limit the.StandardInput [] s s (Ok (Gives w))
input_told p limit w s h = read_by_computed p limit the.StandardInput [] s (Gives w) (record { told = λ names rows b f. ap (λ v. meaning.result v (state_of names s b)) (sym (h names rows f.layout)) })

pub output_told : (p : Primitives) (limit : Option ℕ) (w : Word) (s : Store)
    → ((names : List (List ℕ)) (rows : ProgramRows) → IsInitialHeap names rows p.layout.now → value_of_word names w ≡ standard_output names rows)
    → IsComputed p limit the.StandardOutput [] s s (Ok (Gives w))
output_told p limit w s h = read_by_computed p limit the.StandardOutput [] s (Gives w) (record { told = λ names rows b f. ap (λ v. meaning.result v (state_of names s b)) (sym (h names rows f.layout)) })

pub class_told : (p : Primitives) (s : Store) (w v : Word) (c : ℕ) → HasClassOf s w c
    → ((names : List (List ℕ)) (rows : ProgramRows) → IsInitialHeap names rows p.layout.now → value_of_word names v ≡ class_value names rows c)
    → IsReadBy p the.ClassOf (w ∷ []) s (Gives v)
class_told p s w v c x h = record {
  told = λ names rows b f.
      ap (λ d. meaning.result (class_value names rows d) (state_of names s b)) (x.seen names b) ∙ ap (λ u. meaning.result u (state_of names s b)) (sym (h names rows f.layout));
}

pub initargs_told : (p : Primitives) (s : Store) (w place v : Word) (i : Instance) (at : ℕ) → IsSlotAt w place s i at
    → ((names : List (List ℕ)) (rows : ProgramRows) → IsInitialHeap names rows p.layout.now → value_of_word names v ≡ initargs_value names rows i.class at)
    → IsReadBy p the.SlotInitargs (w ∷ place ∷ []) s (Gives v)
initargs_told p s w place v i at x h = record { told = λ names rows b f. x.seen names b _ ∙ ap (λ u. meaning.result u (state_of names s b)) (sym (h names rows f.layout)) }

pub no_initargs : (p : Primitives) (s : Store) (w place : Word) (a : Answer) → IsNoSlot w place s a → IsReadBy p the.SlotInitargs (w ∷ place ∷ []) s a
no_initargs p s w place a x = record { told = λ names rows b f. x.seen names b _ }

pub initform_told : (p : Primitives) (s : Store) (w place v : Word) (i : Instance) (at : ℕ) → IsSlotAt w place s i at
    → ((names : List (List ℕ)) (rows : ProgramRows) → IsInitialHeap names rows p.layout.now → value_of_word names v ≡ initform_value names rows i.class at)
    → IsReadBy p the.SlotInitform (w ∷ place ∷ []) s (Gives v)
initform_told p s w place v i at x h = record { told = λ names rows b f. x.seen names b _ ∙ ap (λ u. meaning.result u (state_of names s b)) (sym (h names rows f.layout)) }

pub no_initform : (p : Primitives) (s : Store) (w place : Word) (a : Answer) → IsNoSlot w place s a → IsReadBy p the.SlotInitform (w ∷ place ∷ []) s a
no_initform p s w place a x = record { told = λ names rows b f. x.seen names b _ }

-- another number of arguments than a primitive takes
none_wrong : (f : State → meaning.Answer) (vs : List Value) (z : State) → (length vs ≡ 0 → ⊥) → of_none f vs z ≡ meaning.result nil z
none_wrong f [] z h = absurd (h refl)
none_wrong f (v ∷ vs) z h = refl

one_wrong : (f : Value → State → meaning.Answer) (vs : List Value) (z : State) → (length vs ≡ 1 → ⊥) → of_one f vs z ≡ meaning.result nil z
one_wrong f [] z h = refl
one_wrong f (v ∷ []) z h = absurd (h refl)
one_wrong f (v ∷ w ∷ vs) z h = refl

two_wrong : (f : Value → Value → State → meaning.Answer) (vs : List Value) (z : State) → (length vs ≡ 2 → ⊥) → of_two f vs z ≡ meaning.result nil z
two_wrong f [] z h = refl
two_wrong f (v ∷ []) z h = refl
two_wrong f (v ∷ w ∷ []) z h = absurd (h refl)
two_wrong f (v ∷ w ∷ u ∷ vs) z h = refl

three_wrong : (f : Value → Value → Value → State → meaning.Answer) (vs : List Value) (z : State) → (length vs ≡ 3 → ⊥) → of_three f vs z ≡ meaning.result nil z
three_wrong f (v ∷ w ∷ u ∷ []) z h = absurd (h refl)
three_wrong f w z h = refl

zero_nil : (names : List (List ℕ)) (rows : ProgramRows) (x : Nullary) (vs : List Value) (z : State) → (length vs ≡ 0 → ⊥) → primitive names rows (zero_of x) vs z ≡ meaning.result nil z
zero_nil names rows zeros.Gensym vs z h = none_wrong _ vs z h
zero_nil names rows zeros.StandardInput vs z h = none_wrong _ vs z h
zero_nil names rows zeros.StandardOutput vs z h = none_wrong _ vs z h

one_nil : (names : List (List ℕ)) (rows : ProgramRows) (x : Unary) (vs : List Value) (z : State) → (length vs ≡ 1 → ⊥) → primitive names rows (one_of x) vs z ≡ meaning.result nil z
one_nil names rows (one.Is kind.Null) vs z h = one_wrong _ vs z h
one_nil names rows (one.Part part.Car) vs z h = one_wrong _ vs z h
one_nil names rows (one.Length lengths.String) vs z h = one_wrong _ vs z h
one_nil names rows x vs z h = one_wrong _ vs z h

two_nil : (names : List (List ℕ)) (rows : ProgramRows) (x : Binary) (vs : List Value) (z : State) → (length vs ≡ 2 → ⊥) → primitive names rows (two_of x) vs z ≡ meaning.result nil z
two_nil names rows (two.Arithmetic arithmetic.Add) vs z h = two_wrong _ vs z h
two_nil names rows (two.Comparison comparison.Equal) vs z h = two_wrong _ vs z h
two_nil names rows (two.Element element.CharAt) vs z h = two_wrong _ vs z h
two_nil names rows (two.Search searches.IsSubclass) vs z h = two_wrong _ vs z h
two_nil names rows x vs z h = two_wrong _ vs z h

three_nil : (names : List (List ℕ)) (rows : ProgramRows) (x : ElementSet) (vs : List Value) (z : State) → (length vs ≡ 3 → ⊥) → primitive names rows (element_set_of x) vs z ≡ meaning.result nil z
three_nil names rows element_set.CharAt vs z h = three_wrong _ vs z h
three_nil names rows element_set.VectorRef vs z h = three_wrong _ vs z h
three_nil names rows element_set.Slot vs z h = three_wrong _ vs z h

-- so nil is answered
pub zero_misused : (p : Primitives) (limit : Option ℕ) (x : Nullary) (which : Primitive) (ws : List Word) (s : Store) → primitive_of (group.Zero x) ≡ which → (length ws ≡ 0 → ⊥)
    → IsComputed p limit which ws s s (Ok (Gives word.Nil))
zero_misused p limit x which ws s e h =
    let P : Primitive → Type 0 = λ q. IsComputed p limit q ws s s (Ok (Gives word.Nil)) in
    subst P e
    (told_computed p limit (zero_of x) ws s (Gives word.Nil) (record {
      told = λ names rows z. zero_nil names rows x (values_of names ws) z (λ k. h (sym (length-map ws (value_of_word names)) ∙ k));
    }))

pub one_misused : (p : Primitives) (limit : Option ℕ) (x : Unary) (which : Primitive) (ws : List Word) (s : Store) → primitive_of (group.One x) ≡ which → (length ws ≡ 1 → ⊥)
    → IsComputed p limit which ws s s (Ok (Gives word.Nil))
one_misused p limit x which ws s e h =
    let P : Primitive → Type 0 = λ q. IsComputed p limit q ws s s (Ok (Gives word.Nil)) in
    subst P e
    (told_computed p limit (one_of x) ws s (Gives word.Nil) (record {
      told = λ names rows z. one_nil names rows x (values_of names ws) z (λ k. h (sym (length-map ws (value_of_word names)) ∙ k));
    }))

pub two_misused : (p : Primitives) (limit : Option ℕ) (x : Binary) (which : Primitive) (ws : List Word) (s : Store) → primitive_of (group.Two x) ≡ which → (length ws ≡ 2 → ⊥)
    → IsComputed p limit which ws s s (Ok (Gives word.Nil))
two_misused p limit x which ws s e h =
    let P : Primitive → Type 0 = λ q. IsComputed p limit q ws s s (Ok (Gives word.Nil)) in
    subst P e
    (told_computed p limit (two_of x) ws s (Gives word.Nil) (record {
      told = λ names rows z. two_nil names rows x (values_of names ws) z (λ k. h (sym (length-map ws (value_of_word names)) ∙ k));
    }))

pub three_misused : (p : Primitives) (limit : Option ℕ) (x : ElementSet) (which : Primitive) (ws : List Word) (s : Store) → primitive_of (group.Three x) ≡ which → (length ws ≡ 3 → ⊥)
    → IsComputed p limit which ws s s (Ok (Gives word.Nil))
three_misused p limit x which ws s e h =
    let P : Primitive → Type 0 = λ q. IsComputed p limit q ws s s (Ok (Gives word.Nil)) in
    subst P e
    (told_computed p limit (element_set_of x) ws s (Gives word.Nil) (record {
      told = λ names rows z. three_nil names rows x (values_of names ws) z (λ k. h (sym (length-map ws (value_of_word names)) ∙ k));
    }))

-- groups of the primitive at hand
pub streaming : (x : Stream) (which : Primitive) → primitive_of (group.Stream x) ≡ which → is_streaming which ≡ false → ⊥
streaming x which e h = apart x (ap is_streaming e ∙ h)
  where
    apart : (x : Stream) → is_streaming (stream_of x) ≡ false → ⊥
    apart stream.PutChar k = absurd (cc)
    apart stream.IsFreshLine k = absurd (cc)
    apart stream.GetByte k = absurd (cc)
    apart stream.PeekByte k = absurd (cc)
