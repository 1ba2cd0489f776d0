-- What core forms mention, by what was found of their parts.
use Rattle.std.proofs.Common.{◌≡◌, ℕ, Bool, true, false, not, ◌&&◌, ◌||◌, List, [], ◌∷◌, ◌-◌, Option, Some, None, take, drop, length, refl, sym, ap, ◌∙◌, arith, length-drop}
use Rattle.std.specs.Prelude.{◌==◌}
use Rattle.std.specs.List.{list_any, filter}
use Rattle.std.proofs.lemmas.Bool.{eqb-true, and_parts}
use Rattle.std.proofs.Math.Bool.{or_comm}
use Rattle.std.proofs.lemmas.List.{take-append-drop}
use Rattle.std.proofs.lemmas.List.Folds.{list_any-append}
use Rattle.base.specs.declared.datum.Name.{Name}
use Rattle.lang_meaning.specs.declared.capture.Capture.{Capture}
use Rattle.lang_meaning.specs.declared.capture.Capture.TheVariants.{Variable}
use Rattle.lang_meaning.specs.Form.{Form, local, go, next_method, has_next, set_local, return_from, dynamic_let}
use Rattle.lang_meaning.specs.Subforms.{outer, inner, forms_list, clause_list, value_list, dynamic_value_list}
use Rattle.lang_meaning.specs.Mentions.{same_part, names_part, binds, mentions}
use Rattle.lang_meaning.specs.bridge.Judged.{mentions_folded}
use Rattle.lang_meaning.specs.bridge.Listed.{forms_listed}
use Rattle.lang_meaning.specs.model.View.{forms}
use Rattle.front_profile.specs.declared.elaboration.ElaboratedPart.{ElaboratedPart}
use Rattle.front_profile.specs.declared.elaboration.Leaf.{Leaf}
use Rattle.front_profile.specs.declared.elaboration.Leaf.TheVariants.{Literal, Local, Global, Dynamic, Go, NextMethod, HasNext, Nothing}
use Rattle.front_profile.specs.declared.elaboration.One.{One}
use Rattle.front_profile.specs.declared.elaboration.One.TheVariants.{SetVariable, SetGlobal, DefineGlobal, SetDynamic, DefineDynamic, ReturnTo}
use Rattle.lang_meaning.specs.declared.kinds.OverTwo.{OverTwo}
use Rattle.lang_meaning.specs.declared.kinds.OverTwo.TheVariants.{Apply, While, Catch, Throw, Unwind, WithHandler, Signal, Continue}
use Rattle.front_profile.specs.declared.elaboration.Elaboration.{Elaboration}
use Rattle.front_profile.specs.declared.elaboration.Elaboration.TheVariants.{Ready, OfOne, OfTwo, OfBody, InSequence, CallOf, CallOfValue, CallOfLocal, CallOfPrimitive, OfClauses, OfVariables, OfDynamics, OfFunction, OfBlock, OfSegments, OfFunctionNamed, OfProcedure, OfAccessor, OfMethods, OfClass}
use Rattle.front_profile.specs.Elaborations.{nothing, leaf_form, body_of, one_of, two_of, make_one, make_two, make_with_body, make_clauses, make_segments, make_dynamics, behind_dynamics, forms_found, bindings_found, elaborate}
use Rattle.front_elaboration.specs.declared.mentioned.Mentioned.{Mentioned}
use Rattle.front_elaboration.specs.Mentioned.{has, is_part, own_part, AreParts}
use Rattle.front_elaboration.specs.Kept.{AreFoundParts}
use Rattle.front_elaboration.specs.Taken.{clauses_left, segments_left, takes_forms, takes_values, called, Gathers}
use Rattle.front_elaboration.proofs.SetsOfParts.{or_false}

-- the part that a form names
pub own_named : (p : Capture) (f : Form) → is_part p (own_part f) ≡ names_part p f
own_named p (local v) = refl
own_named p (set_local v f) = refl
own_named p (return_from x f) = refl
own_named p (go x segment) = refl
own_named p next_method = refl
own_named p has_next = refl
own_named p f = refl

-- a form's own part beside what those around mention, and what those inside mention behind what the form binds
pub all_gathered : (outer inner behind more all : Mentioned) (own : Option Capture) (f : Form) → own ≡ own_part f
    → AreParts behind (λ p. not (binds p f) && has inner p) → AreParts more (λ p. has outer p || is_part p own)
    → AreParts all (λ p. has more p || has behind p)
    → AreParts all (λ p. names_part p f || has outer p || (not (binds p f) && has inner p))
all_gathered outer inner behind more all own f e b m a = record {
  so = λ p.
      let named : is_part p own ≡ names_part p f = ap (is_part p) e ∙ own_named p f in
      let first : has more p ≡ (names_part p f || has outer p) =
      m.so p ∙ ap (λ x. has outer p || x) named ∙ or_comm (has outer p) (names_part p f) in
      a.so p ∙ ap (λ x. x || has behind p) first ∙ ap (λ x. (names_part p f || has outer p) || x) (b.so p);
}

-- a body mentions what its forms do
pub body_mentions : (p : Capture) (fs : List Form) → mentions p (body_of fs) ≡ list_any (mentions p) fs
body_mentions p fs =
    mentions_folded p (body_of fs) ∙ or_false (list_any (mentions p) (forms_list (forms fs))) ∙ ap (list_any (mentions p)) (sym (forms_listed fs))

filtered : (s t : Capture → Bool) (ps : List Capture) → ((p : Capture) → s p ≡ t p) → filter s ps ≡ filter t ps
filtered s t [] e = refl
filtered s t (p ∷ ps) e = cc (e p, filtered s t ps e)

-- what a function captures
pub body_captures : (m : Mentioned) (fs : List Form) (ps : List Capture) → AreParts m (λ p. list_any (mentions p) fs)
    → filter (has m) ps ≡ filter (λ p. mentions p (body_of fs)) ps
body_captures m fs ps h = filtered (has m) (λ p. mentions p (body_of fs)) ps (λ p. h.so p ∙ sym (body_mentions p fs))

-- a form whose parts stand where it stands, one whose parts stand where it binds something, and one with both

or_turn : (n v : Bool) → ((n || false) || v) ≡ ((n || v) || false)
or_turn true v = refl
or_turn false v = sym (or_false v)

stand_outside : (n bind b o v i : Bool) → b ≡ false → bind ≡ false → o ≡ v → i ≡ false → ((n || b) || (not bind && v)) ≡ ((n || o) || (not bind && i))
stand_outside n bind b o v i d e f g = rw (d, e, f, g) (or_turn n v)

outside : (p : Capture) (f : Form) (b v : Bool) → b ≡ false → binds p f ≡ false → list_any (mentions p) (outer f) ≡ v → list_any (mentions p) (inner f) ≡ false
    → Gathers p f b v
outside p f b v d e o i =
    stand_outside (names_part p f) (binds p f) b (list_any (mentions p) (outer f)) v (list_any (mentions p) (inner f)) d e o i ∙ sym (mentions_folded p f)

both : (p : Capture) (f : Form) (b v : Bool) → list_any (mentions p) (outer f) ≡ b → list_any (mentions p) (inner f) ≡ v → Gathers p f b v
both p f b v o i =
    ap (λ x. (names_part p f || x) || (not (binds p f) && v)) (sym o) ∙ ap (λ x. (names_part p f || list_any (mentions p) (outer f)) || (not (binds p f) && x)) (sym i)
    ∙ sym (mentions_folded p f)

-- forms that were found where none, one or two are taken

none_found : (q : Form → Bool) (fs : List Form) → (length fs == 0) ≡ true → list_any q fs ≡ false
none_found q [] e = refl
none_found q (f ∷ fs) e = absurd (omega (arith, eqb-true (length (f ∷ fs)) 0 e))

pub leaf_gathers : (p : Capture) (l : Leaf) (b v : Bool) → b ≡ false → v ≡ false → Gathers p (leaf_form l) b v
leaf_gathers p (Literal n) b v d e = outside p (leaf_form (Literal n)) b v d refl (sym e) refl
leaf_gathers p (Local w) b v d e = outside p (leaf_form (Local w)) b v d refl (sym e) refl
leaf_gathers p (Global n) b v d e = outside p (leaf_form (Global n)) b v d refl (sym e) refl
leaf_gathers p (Dynamic n) b v d e = outside p (leaf_form (Dynamic n)) b v d refl (sym e) refl
leaf_gathers p (Go x k) b v d e = outside p (leaf_form (Go x k)) b v d refl (sym e) refl
leaf_gathers p NextMethod b v d e = outside p (leaf_form NextMethod) b v d refl (sym e) refl
leaf_gathers p HasNext b v d e = outside p (leaf_form HasNext) b v d refl (sym e) refl
leaf_gathers p Nothing b v d e = outside p (leaf_form Nothing) b v d refl (sym e) refl

-- what a form without parts mentions, where nothing is mentioned around it and inside
pub leaf_gathered : (outer inner all : Mentioned) (f : Form) (l : Leaf) → f ≡ leaf_form l
    → AreParts outer (λ p. false) → AreParts inner (λ p. false)
    → AreParts all (λ p. names_part p f || has outer p || (not (binds p f) && has inner p))
    → AreParts all (λ p. mentions p f)
leaf_gathered outer inner all f l e o i a = record {
  so = λ p.
      let leaf : Gathers p f (has outer p) (has inner p) = rw e (leaf_gathers p l (has outer p) (has inner p) (o.so p) (i.so p)) in
      a.so p ∙ leaf;
}

one_of_gathers : (p : Capture) (k : One) (f : Form) (b : Bool) → b ≡ false → Gathers p (one_of k f) b (list_any (mentions p) (f ∷ []))
one_of_gathers p (SetVariable v) f b d = outside p (one_of (SetVariable v) f) b _ d refl refl refl
one_of_gathers p (SetGlobal n) f b d = outside p (one_of (SetGlobal n) f) b _ d refl refl refl
one_of_gathers p (DefineGlobal row) f b d = outside p (one_of (DefineGlobal row) f) b _ d refl refl refl
one_of_gathers p (SetDynamic n) f b d = outside p (one_of (SetDynamic n) f) b _ d refl refl refl
one_of_gathers p (DefineDynamic row) f b d = outside p (one_of (DefineDynamic row) f) b _ d refl refl refl
one_of_gathers p (ReturnTo x) f b d = outside p (one_of (ReturnTo x) f) b _ d refl refl refl

one_gathers : (p : Capture) (k : One) (fs : List Form) (b : Bool) → b ≡ false → (length fs == 1) ≡ true → Gathers p (make_one k fs) b (list_any (mentions p) fs)
one_gathers p k [] b d e = absurd (omega (arith, eqb-true (length {A = Form} []) 1 e))
one_gathers p k (f ∷ []) b d e = one_of_gathers p k f b d
one_gathers p k (f ∷ g ∷ fs) b d e = absurd (omega (arith, eqb-true (length (f ∷ g ∷ fs)) 1 e))

two_of_gathers : (p : Capture) (k : OverTwo) (f g : Form) (b v : Bool) → b ≡ false → list_any (mentions p) (f ∷ g ∷ []) ≡ v → Gathers p (two_of k f g) b v
two_of_gathers p Apply f g b v d e = outside p (two_of Apply f g) b v d refl e refl
two_of_gathers p While f g b v d e = outside p (two_of While f g) b v d refl e refl
two_of_gathers p Catch f g b v d e = outside p (two_of Catch f g) b v d refl e refl
two_of_gathers p Throw f g b v d e = outside p (two_of Throw f g) b v d refl e refl
two_of_gathers p Unwind f g b v d e = outside p (two_of Unwind f g) b v d refl e refl
two_of_gathers p WithHandler f g b v d e = outside p (two_of WithHandler f g) b v d refl e refl
two_of_gathers p Signal f g b v d e = outside p (two_of Signal f g) b v d refl e refl
two_of_gathers p Continue f g b v d e = outside p (two_of Continue f g) b v d refl e refl

two_gathers : (p : Capture) (k : OverTwo) (fs : List Form) (b : Bool) → b ≡ false → (length fs == 2) ≡ true → Gathers p (make_two k fs) b (list_any (mentions p) fs)
two_gathers p k [] b d e = absurd (omega (arith, eqb-true (length {A = Form} []) 2 e))
two_gathers p k (f ∷ []) b d e = absurd (omega (arith, eqb-true (length (f ∷ [])) 2 e))
two_gathers p k (f ∷ g ∷ []) b d e = two_of_gathers p k f g b _ d refl
two_gathers p k (f ∷ g ∷ h ∷ fs) b d e = absurd (omega (arith, eqb-true (length (f ∷ g ∷ h ∷ fs)) 2 e))

-- a form and a body

body_gathers : (p : Capture) (k : OverTwo) (fs : List Form) (b : Bool) → b ≡ false → Gathers p (make_with_body k fs) b (list_any (mentions p) fs)
body_gathers p k [] b d = outside p nothing b false d refl refl refl
body_gathers p k (f ∷ fs) b d =
    two_of_gathers p k f (body_of fs) b (list_any (mentions p) (f ∷ fs)) d (ap (λ x. mentions p f || x) (or_false (mentions p (body_of fs)) ∙ body_mentions p fs))

-- all forms in order
listed : (p : Capture) (fs : List Form) → list_any (mentions p) (forms_list (forms fs)) ≡ list_any (mentions p) fs
listed p fs = ap (list_any (mentions p)) (sym (forms_listed fs))

-- clauses, segments and dynamic variables

split : (q : Form → Bool) (n : ℕ) (fs : List Form) → (list_any q (take n fs) || list_any q (drop n fs)) ≡ list_any q fs
split q n fs = sym (list_any-append q (take n fs) (drop n fs)) ∙ ap (list_any q) (take-append-drop n fs)

nothing_left : (q : Form → Bool) (fs : List Form) → length fs ≡ 0 → false ≡ list_any q fs
nothing_left q [] e = refl
nothing_left q (f ∷ fs) e = absurd (omega arith)

or_more : (a b c : Bool) → (a || (b || c)) ≡ ((a || b) || c)
or_more true b c = refl
or_more false b c = refl

clauses_mention : (p : Capture) (ls : List (Option ℕ)) (fs : List Form) → clauses_left ls (length fs) ≡ 0
    → list_any (mentions p) (clause_list (make_clauses ls fs)) ≡ list_any (mentions p) fs
clauses_mention p [] fs e = nothing_left (mentions p) fs e
clauses_mention p (l ∷ ls) [] e = refl
clauses_mention p (None ∷ ls) (f ∷ fs) e =
    let one : length fs ≡ length (f ∷ fs) - 1 - 0 = omega arith in
    ap (λ x. mentions p f || x) (clauses_mention p ls fs (ap (clauses_left ls) one ∙ e))
clauses_mention p (Some l ∷ ls) (f ∷ fs) e =
    let left : length (drop l fs) ≡ length (f ∷ fs) - 1 - l = omega (arith, length-drop l fs) in
    ap (λ x. mentions p f || (mentions p (body_of (take l fs)) || x)) (clauses_mention p ls (drop l fs) (ap (clauses_left ls) left ∙ e))
    ∙ ap (λ x. mentions p f || (x || list_any (mentions p) (drop l fs))) (body_mentions p (take l fs))
    ∙ ap (λ x. mentions p f || x) (split (mentions p) l fs)

segments_mention : (p : Capture) (ls : List ℕ) (fs : List Form) → segments_left ls (length fs) ≡ 0
    → list_any (mentions p) (forms_list (make_segments ls fs)) ≡ list_any (mentions p) fs
segments_mention p [] fs e = nothing_left (mentions p) fs e
segments_mention p (l ∷ ls) fs e =
    let left : length (drop l fs) ≡ length fs - l = length-drop l fs in
    ap (λ x. mentions p (body_of (take l fs)) || x) (segments_mention p ls (drop l fs) (ap (segments_left ls) left ∙ e))
    ∙ ap (λ x. x || list_any (mentions p) (drop l fs)) (body_mentions p (take l fs))
    ∙ split (mentions p) l fs

dynamics_mention : (q : Form → Bool) (ns : List Name) (fs : List Form)
    → (list_any q (dynamic_value_list (make_dynamics ns fs)) || list_any q (behind_dynamics ns fs)) ≡ list_any q fs
dynamics_mention q [] fs = refl
dynamics_mention q (n ∷ ns) [] = refl
dynamics_mention q (n ∷ ns) (f ∷ fs) =
    sym (or_more (q f) (list_any q (dynamic_value_list (make_dynamics ns fs))) (list_any q (behind_dynamics ns fs))) ∙ ap (λ x. q f || x) (dynamics_mention q ns fs)

dynamics_gather : (p : Capture) (ns : List Name) (fs : List Form) (b : Bool) → b ≡ false
    → Gathers p (dynamic_let (make_dynamics ns fs) (body_of (behind_dynamics ns fs))) b (list_any (mentions p) fs)
dynamics_gather p ns fs b d =
    let q = mentions p in
    let body = body_of (behind_dynamics ns fs) in
    let f : Form = dynamic_let (make_dynamics ns fs) body in
    ap (λ x. x || list_any q fs) d
    ∙ sym (dynamics_mention q ns fs)
    ∙ ap (λ x. list_any q (dynamic_value_list (make_dynamics ns fs)) || x) (sym (or_false (mentions p body) ∙ body_mentions p (behind_dynamics ns fs)))
    ∙ sym (mentions_folded p f)

-- a local function that is called
local_mentions : (p : Capture) (v : ℕ) → mentions p (local v) ≡ same_part p (Variable v)
local_mentions p v = mentions_folded p (local v) ∙ or_false (same_part p (Variable v) || false) ∙ or_false (same_part p (Variable v))

or_around : (a b : Bool) → (a || b) ≡ (b || a)
or_around true true = refl
or_around true false = refl
or_around false true = refl
or_around false false = refl

inside_body : (p : Capture) (fs : List Form) → list_any (mentions p) (body_of fs ∷ []) ≡ list_any (mentions p) fs
inside_body p fs = or_false (mentions p (body_of fs)) ∙ body_mentions p fs

-- what is made of parts that are all taken

abbrev found_mention : Capture → Elaboration → List ElaboratedPart → Bool
found_mention p m rs = list_any (mentions p) (forms_found rs) || is_part p (called m)

abbrev values_mention : Capture → List ElaboratedPart → Bool
values_mention p rs = list_any (mentions p) (value_list (bindings_found rs))

-- with nothing that is called besides
alone : (p : Capture) (f : Form) (b v : Bool) → Gathers p f b v → Gathers p f b (v || false)
alone p f b v h = ap (λ x. (names_part p f || b) || (not (binds p f) && x)) (or_false v) ∙ h

-- where no variables have values
others : (p : Capture) (m : Elaboration) (rs : List ElaboratedPart) → takes_forms m (length (forms_found rs)) ≡ true → values_mention p rs ≡ false
    → Gathers p (elaborate m rs) (values_mention p rs) (found_mention p m rs)
others p (Ready l) rs e d = alone p (leaf_form l) _ _ (leaf_gathers p l _ _ d (none_found (mentions p) (forms_found rs) e))
others p (OfOne k) rs e d = alone p (elaborate (OfOne k) rs) _ _ (one_gathers p k (forms_found rs) _ d e)
others p (OfTwo k) rs e d = alone p (elaborate (OfTwo k) rs) _ _ (two_gathers p k (forms_found rs) _ d e)
others p (OfBody k) rs e d = alone p (elaborate (OfBody k) rs) _ _ (body_gathers p k (forms_found rs) _ d)
others p InSequence rs e d = alone p (elaborate InSequence rs) _ _ (outside p (elaborate InSequence rs) _ _ d refl (listed p (forms_found rs)) refl)
others p (CallOf n) rs e d = alone p (elaborate (CallOf n) rs) _ _ (outside p (elaborate (CallOf n) rs) _ _ d refl (listed p (forms_found rs)) refl)
others p CallOfValue rs e d = alone p (elaborate CallOfValue rs) _ _ (outside p (elaborate CallOfValue rs) _ _ d refl (listed p (forms_found rs)) refl)
others p (CallOfLocal v) rs e d =
    outside p (elaborate (CallOfLocal v) rs) _ _ d refl
    (ap (λ x. x || list_any (mentions p) (forms_list (forms (forms_found rs)))) (local_mentions p v)
    ∙ ap (λ x. same_part p (Variable v) || x) (listed p (forms_found rs))
    ∙ or_around (same_part p (Variable v)) (list_any (mentions p) (forms_found rs)))
    refl
others p (CallOfPrimitive w) rs e d = alone p (elaborate (CallOfPrimitive w) rs) _ _ (outside p (elaborate (CallOfPrimitive w) rs) _ _ d refl (listed p (forms_found rs)) refl)
others p (OfClauses ls) rs e d =
    alone p (elaborate (OfClauses ls) rs) _ _
    (outside p (elaborate (OfClauses ls) rs) _ _ d refl (clauses_mention p ls (forms_found rs) (eqb-true (clauses_left ls (length (forms_found rs))) 0 e)) refl)
others p OfVariables rs e d = alone p (elaborate OfVariables rs) _ _ (both p (elaborate OfVariables rs) _ _ refl (inside_body p (forms_found rs)))
others p (OfDynamics ns) rs e d = alone p (elaborate (OfDynamics ns) rs) _ _ (dynamics_gather p ns (forms_found rs) _ d)
others p (OfFunction n rest parts) rs e d =
    alone p (elaborate (OfFunction n rest parts) rs) _ _ (both p (elaborate (OfFunction n rest parts) rs) _ _ (sym d) (inside_body p (forms_found rs)))
others p (OfBlock x) rs e d = alone p (elaborate (OfBlock x) rs) _ _ (both p (elaborate (OfBlock x) rs) _ _ (sym d) (inside_body p (forms_found rs)))
others p (OfSegments x ls) rs e d =
    alone p (elaborate (OfSegments x ls) rs) _ _
    (both p (elaborate (OfSegments x ls) rs) _ _ (sym d) (segments_mention p ls (forms_found rs) (eqb-true (segments_left ls (length (forms_found rs))) 0 e)))
others p (OfFunctionNamed k n r rest of_file l) rs e d = alone p (leaf_form l) _ _ (leaf_gathers p l _ _ d (none_found (mentions p) (forms_found rs) e))
others p (OfProcedure n r rest) rs e d = alone p nothing _ _ (leaf_gathers p Nothing _ _ d (none_found (mentions p) (forms_found rs) e))
others p (OfAccessor n k v l) rs e d = alone p nothing _ _ (leaf_gathers p Nothing _ _ d (none_found (mentions p) (forms_found rs) e))
others p (OfMethods t hs i of_file l) rs e d = alone p (leaf_form l) _ _ (leaf_gathers p l _ _ d (none_found (mentions p) (forms_found rs) e))
others p (OfClass c i of_file l) rs e d = alone p (leaf_form l) _ _ (leaf_gathers p l _ _ d (none_found (mentions p) (forms_found rs) e))

-- where they are taken
values : (p : Capture) (m : Elaboration) (rs : List ElaboratedPart) → takes_values m ≡ true → Gathers p (elaborate m rs) (values_mention p rs) (found_mention p m rs)
values p OfVariables rs e = alone p (elaborate OfVariables rs) _ _ (both p (elaborate OfVariables rs) _ _ refl (inside_body p (forms_found rs)))
values p m rs e = absurd (cc)

-- by whether there are any
known : (p : Capture) (m : Elaboration) (rs : List ElaboratedPart) (b : Bool) → takes_values m ≡ b → (b ≡ false → values_mention p rs ≡ false)
    → takes_forms m (length (forms_found rs)) ≡ true → Gathers p (elaborate m rs) (values_mention p rs) (found_mention p m rs)
known p m rs true d e t = values p m rs d
known p m rs false d e t = others p m rs t (e refl)

pub all_gathers : (p : Capture) (m : Elaboration) (rs : List ElaboratedPart) (vs bs : Mentioned) (no_values : Bool) → AreFoundParts rs vs bs
    → (no_values ≡ true → AreParts bs (λ q. false))
    → (takes_forms m (length (forms_found rs)) && (takes_values m || no_values)) ≡ true
    → Gathers p (elaborate m rs) (has bs p) (has vs p || is_part p (called m))
all_gathers p m rs vs bs no_values k n e =
    let a : (takes_forms m (length (forms_found rs)) ≡ true) × ((takes_values m || no_values) ≡ true) = and_parts _ _ e in
    rw (k.values.so p, k.bindings.so p)
    (known p m rs (takes_values m) refl (λ t. sym (k.bindings.so p) ∙ (n (ap (λ x. x || no_values) (sym t) ∙ a.1)).so p) a.0)
