-- The parameters of a method, a datum at a time.
use Rattle.std.proofs.Common.{◌≡◌, ◌≤◌, length, ◌+◌, ◌-◌, ◌++◌, List, [], ◌∷◌, refl, ap, sym, ◌∙◌, take, drop}
use Rattle.std.specs.Prelude.{ℕ, Bool, true, false, Option, Some, None, if◌then◌else◌}
use Rattle.std.proofs.lemmas.List.{append_assoc as assoc, append-nil, drop_all}
use Rattle.base.specs.declared.datum.Symbol.{Symbol}
use Rattle.base.specs.Data.{Item}
use Rattle.front_profile.specs.declared.parameters.Parameters.{Parameters}
use Rattle.front_profile.specs.declared.tables.ReservedWords.{ReservedWords}
use Rattle.front_profile.specs.Shapes.{symbol_of, is_rest_word, behind_rest}
use Rattle.front_profile.specs.MethodShapes.{Asked, Specialised, Taken, taken_by, with_taken, without_classes, specialised_of}
use Rattle.front_syntax.specs.declared.methods.Asked.{Asked as ReadAsked}
use Rattle.front_syntax.specs.Definitions.{view_asked, view_all_asked}
use Rattle.front_syntax.specs.Behind.{specialised_behind}
use Rattle.front_syntax.proofs.Shaping.{rest_from}

more_taken : (xs : List Symbol) (cs : List Asked) (t : Taken) (m : Option Specialised)
    → specialised_behind (xs ++ t.variable ∷ []) (cs ++ t.class ∷ []) m ≡ specialised_behind xs cs (with_taken (Some t) m)
more_taken xs cs t None = refl
more_taken xs cs t (Some m) =
    let e : (xs ++ t.variable ∷ []) ++ m.parameters.required ≡ xs ++ (t.variable ∷ m.parameters.required) = assoc xs (t.variable ∷ []) m.parameters.required in
    let f : (cs ++ t.class ∷ []) ++ m.classes ≡ cs ++ (t.class ∷ m.classes) = assoc cs (t.class ∷ []) m.classes in
    cc (e, f)

by_word : (xs : List Symbol) (cs : List Asked) (t : Taken) (word : Bool) (y : Option Taken) (m rest : Option Specialised) → word ≡ false → y ≡ Some t
    → specialised_behind (xs ++ t.variable ∷ []) (cs ++ t.class ∷ []) m ≡ specialised_behind xs cs (if word then rest else with_taken y m)
by_word xs cs t true y m rest e f = absurd (cc)
by_word xs cs t false None m rest e f = absurd (cc)
by_word xs cs t false (Some u) m rest e f = let same : u ≡ t = cc in rw same (more_taken xs cs t m)

-- the classes that were read, with one more
pub one_more : (cs : List ReadAsked) (c : ReadAsked) → view_all_asked (cs ++ c ∷ []) ≡ view_all_asked cs ++ view_asked c ∷ []
one_more [] c = refl
one_more (d ∷ cs) c = ap (λ es. view_asked d ∷ es) (one_more cs c)

-- a required parameter more was seen
pub taken_turn : (w : ReservedWords) (ds : List Item) (i : ℕ) (d : Item) (t : Taken) (xs : List Symbol) (cs : List Asked) (all : Option Specialised)
    → drop i ds ≡ d ∷ drop (i + 1) ds → is_rest_word w (symbol_of d) ≡ false → taken_by w d (symbol_of d) ≡ Some t
    → specialised_behind xs cs (specialised_of w (drop i ds)) ≡ all
    → specialised_behind (xs ++ t.variable ∷ []) (cs ++ t.class ∷ []) (specialised_of w (drop (i + 1) ds)) ≡ all
taken_turn w ds i d t xs cs all now f g h =
    by_word xs cs t (is_rest_word w (symbol_of d)) (taken_by w d (symbol_of d)) (specialised_of w (drop (i + 1) ds)) (without_classes (behind_rest w (drop (i + 1) ds))) f g
    ∙ (ap (λ es. specialised_behind xs cs (specialised_of w es)) (sym now) ∙ h)

-- the word of a rest variable and what stands behind it, a datum that is no parameter, and the end

pub specialised_rest : (w : ReservedWords) (ds : List Item) (i : ℕ) (d : Item) (xs : List Symbol) (cs : List Asked) (y : Option Parameters) (all : Option Specialised)
    → drop i ds ≡ d ∷ drop (i + 1) ds → is_rest_word w (symbol_of d) ≡ true → y ≡ behind_rest w (take (length ds - (i + 1)) (drop (i + 1) ds))
    → specialised_behind xs cs (specialised_of w (drop i ds)) ≡ all → specialised_behind xs cs (without_classes y) ≡ all
specialised_rest w ds i d xs cs y all now f g h =
    let there : specialised_of w (drop i ds) ≡ without_classes (behind_rest w (drop (i + 1) ds)) = ap (specialised_of w) now ∙ rw f refl in
    let same : y ≡ behind_rest w (drop (i + 1) ds) = g ∙ ap (behind_rest w) (rest_from ds (i + 1)) in
    ap (specialised_behind xs cs) (ap without_classes same ∙ sym there) ∙ h

pub specialised_none : (w : ReservedWords) (ds : List Item) (i : ℕ) (d : Item) (xs : List Symbol) (cs : List Asked) (all : Option Specialised)
    → drop i ds ≡ d ∷ drop (i + 1) ds → is_rest_word w (symbol_of d) ≡ false → taken_by w d (symbol_of d) ≡ None
    → specialised_behind xs cs (specialised_of w (drop i ds)) ≡ all → None ≡ all
specialised_none w ds i d xs cs all now f g h =
    let there : specialised_of w (drop i ds) ≡ None = ap (specialised_of w) now ∙ rw (f, g) refl in
    ap (specialised_behind xs cs) (sym there) ∙ h

-- the parameters that were read, and the rest variable
abbrev with_rest : List Symbol → List Asked → Option Symbol → Option Specialised
with_rest xs cs rest = Some (record { parameters = record { required = xs; rest = rest }; classes = cs })

pub none_taken : (xs : List Symbol) (cs : List Asked) (rest : Option Symbol) (m : Specialised) (all : Option Specialised)
    → m ≡ record { parameters = record { required = xs; rest = rest }; classes = cs }
    → specialised_behind xs cs (without_classes (Some (record { required = []; rest = rest }))) ≡ all → Some m ≡ all
none_taken xs cs rest m all e h =
    ap (λ n. Some n) e ∙ ap (λ ys. with_rest ys cs rest) (sym (append-nil xs)) ∙ ap (λ bs. with_rest (xs ++ []) bs rest) (sym (append-nil cs)) ∙ h

pub specialised_end : (w : ReservedWords) (ds : List Item) (i : ℕ) (xs : List Symbol) (cs : List Asked) (all : Option Specialised) → length ds ≤ i
    → specialised_behind xs cs (specialised_of w (drop i ds)) ≡ all
    → specialised_behind xs cs (without_classes (Some (record { required = []; rest = None }))) ≡ all
specialised_end w ds i xs cs all l h = ap (λ es. specialised_behind xs cs (specialised_of w es)) (sym (drop_all i ds l)) ∙ h
