-- How a generic function finds its methods: the classes of its arguments, and their chain.
use Rattle.std.proofs.Common.{Bor, ◌≡◌, ℕ, zero, suc, ◌+◌, ◌-◌, ◌<◌, ◌≤◌, List, [], ◌∷◌, ◌++◌, length, map, take, Bool, true, false, Option, Some, None, refl, ap, sym, ◌∙◌, arith}
use Rattle.std.specs.Prelude.{slice_get, filter, ◌&&◌, MatchOption, option_copied}
use Rattle.std.proofs.lemmas.List.{map-append, length-append, length-take-le, length-drop}
use Rattle.std.proofs.lemmas.Option.{slice_get_past}
use Rattle.base.specs.model.DataRest.{take_at}
use Rattle.lang_meaning.specs.declared.program.ProgramRows.{ProgramRows}
use Rattle.lang_meaning.specs.declared.program.ClassRow.{ClassRow}
use Rattle.lang_meaning.specs.declared.program.GenericRow.{GenericRow}
use Rattle.lang_meaning.specs.declared.program.MethodRow.{MethodRow}
use Rattle.lang_meaning.specs.declared.program.Qualifier.TheVariants.{Primary}
use Rattle.lang_meaning.specs.Lookup.{is_in}
use Rattle.lang_meaning.specs.Classes.{applies, is_below, more_specific, ordered, of_kind, chain_of, chain, precedence_of, class_of}
use Rattle.lang_dispatch.specs.declared.chain.Chain.{Chain as Kept}
use Rattle.flat_language.specs.declared.program.FlatProgram.{FlatProgram}
use Rattle.flat_language.specs.FlatNodes.{tables}
use Rattle.lang_dispatch.specs.OfClasses.{with_classes}
use Rattle.lang_dispatch.specs.Chains.{seen}
use Rattle.eval_store.specs.declared.word.Word.{Word}
use Rattle.eval_store.specs.Words.{value_of_word, values_of}
use Rattle.eval_primitives.specs.Classing.{HasClassOf}
use Rattle.eval_state.specs.declared.machine.Machine.{Machine}
use Rattle.eval_state.specs.Frames.{frame_slots, last_of}
use Rattle.eval_state.specs.View.{state}
use Rattle.eval_application.specs.Generics.{HasPast, AreBelow, AreClassesOf, IsChainFor}

-- nothing is below what is no class
past_below : (program : ProgramRows) (c m : ℕ) → length program.classes ≤ c → is_below program c m ≡ false
past_below program c m h = ap (λ (o : Option ClassRow). is_in m (precedence_of o)) (slice_get_past program.classes c h)

and_false : (b : Bool) → (b && false) ≡ false
and_false true = refl
and_false false = refl

-- no method applies where one argument has no class
past_applies : (program : ProgramRows) (cs ms : List ℕ) (i c : ℕ) → slice_get cs i ≡ Some c → length program.classes ≤ c → applies program cs ms ≡ false
past_applies program [] ms i c h k = absurd (cc)
past_applies program (x ∷ cs) [] i c h k = refl
past_applies program (x ∷ cs) (m ∷ ms) zero c h k =
    let e : x ≡ c = cc in
    ap (λ t. t && applies program cs ms) (ap (λ y. is_below program y m) e ∙ past_below program c m k)
past_applies program (x ∷ cs) (m ∷ ms) (suc i) c h k =
    ap (λ t. is_below program x m && t) (past_applies program cs ms i c h k) ∙ and_false (is_below program x m)

filter_none : {X : Type 0} (p : X → Bool) (xs : List X) → ((x : X) → p x ≡ false) → filter p xs ≡ []
filter_none p [] h = refl
filter_none p (x ∷ xs) h = rw (h x) (filter_none p xs h)

pub no_chain : (program : ProgramRows) (g : GenericRow) (cs : List ℕ) → HasPast cs (length program.classes) → chain program g cs ≡ None
no_chain program g cs h =
    ap (λ ms. chain_of (ordered (λ (m n : MethodRow). more_specific program cs m.classes n.classes) ms) (of_kind Primary (ordered (λ (m n : MethodRow). more_specific program cs m.classes n.classes) ms)))
    (filter_none (λ (m : MethodRow). applies program cs m.classes) g.methods (λ m. past_applies program cs m.classes h.place h.number h.there h.past))

-- one class more
pub no_class : (m : Machine) → AreClassesOf m [] []
no_class m = record { count = refl; seen = λ names b. refl }

pub class_there : (m : Machine) (ws : List Word) (n : ℕ) (w : Word) (c : ℕ) (cs : List ℕ) → slice_get ws n ≡ Some w → HasClassOf m.store w c → AreClassesOf m (take n ws) cs
    → AreClassesOf m (take (n + 1) ws) (cs ++ c ∷ [])
class_there m ws n w c cs h k a = record {
  count = length-append cs (c ∷ []) ∙ ap (λ i. i + 1) a.count ∙ sym (ap length (take_at ws n w h) ∙ length-append (take n ws) (w ∷ []));
  seen = λ names b.
      let f : List Word → List ℕ = λ us. map (class_of (state names m b).state) (values_of names us) in
      let one : c ∷ [] ≡ f (w ∷ []) = ap (λ (x : ℕ). x ∷ []) (sym (k.seen names (record b { frame = frame_slots names m.current m.slots.items }))) in
      ap (λ xs. xs ++ c ∷ []) (a.seen names b)
      ∙ ap (λ xs. f (take n ws) ++ xs) one
      ∙ sym (map-append (class_of (state names m b).state) (values_of names (take n ws)) (values_of names (w ∷ [])))
      ∙ ap (map (class_of (state names m b).state)) (sym (map-append (value_of_word names) (take n ws) (w ∷ [])))
      ∙ ap f (sym (take_at ws n w h));
}

-- as many classes as are required
pub so_many_classes : (m : Machine) (n required : ℕ) (cs : List ℕ) → n ≤ length m.operands.items → required ≤ n → AreClassesOf m (take required (last_of n m.operands.items)) cs → length cs ≡ required
so_many_classes m n required cs h k a =
    a.count ∙ length-take-le required (last_of n m.operands.items) (omega (arith, length-drop (length m.operands.items - n) m.operands.items))

-- what the tables give
pub found_chain : (program : ProgramRows) (g : GenericRow) (cs : List ℕ) (o : Option Kept) (c : Kept) → IsChainFor program g cs o → o ≡ Some c → chain program g cs ≡ Some (seen c)
found_chain program g cs None c h e = absurd (cc)
found_chain program g cs (Some k) c h e =
    let same : k ≡ c = cc in
    h ∙ ap (λ x. Some (seen x)) same

pub found_no_chain : (program : ProgramRows) (g : GenericRow) (cs : List ℕ) (o : Option Kept) → IsChainFor program g cs o → o ≡ None → chain program g cs ≡ None
found_no_chain program g cs None h e = h
found_no_chain program g cs (Some k) h e = absurd (cc)

-- the chain for arguments of these classes
pub all_below : (cs : List ℕ) (n : ℕ) (r : Bool) → AreBelow cs n r → r ≡ true → (i c : ℕ) → slice_get cs i ≡ Some c → c < n
all_below cs n true h e = h
all_below cs n false h e = absurd (cc)

pub one_past : (cs : List ℕ) (n : ℕ) (r : Bool) → AreBelow cs n r → r ≡ false → HasPast cs n
one_past cs n false h e = h
one_past cs n true h e = absurd (cc)

pub looked_up : (program : FlatProgram) (g : GenericRow) (cs : List ℕ) (o : Option (Bor Kept))
    → MatchOption o (chain (with_classes program.classes) g cs ≡ None) (λ c. chain (with_classes program.classes) g cs ≡ Some (seen c.now)) → IsChainFor (tables program) g cs (option_copied o)
looked_up program g cs None h = h
looked_up program g cs (Some c) h = h
