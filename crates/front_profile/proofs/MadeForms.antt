-- Forms that are made of right forms are right.
use Rattle.std.proofs.Common.{◌≡◌, ◌+◌, ◌≤◌, ◌<◌, ℕ, zero, suc, max, if◌then◌else◌, Bool, true, false, List, [], ◌∷◌, map, length, take, drop, Option, Some, refl, sym, ap, subst, ◌∙◌, arith}
use Rattle.std.proofs.lemmas.Bool.{le-leb, lt-ltb, eq-eqb}
use Rattle.std.proofs.lemmas.Bool.{and_from}
use Rattle.base.specs.AllOf.{AllOf, all_take, all_drop}
use Rattle.lang_meaning.specs.declared.primitive.Primitive.{Primitive}
use Rattle.lang_meaning.specs.declared.capture.Capture.{Capture as Captured}
use Rattle.lang_meaning.specs.declared.scope.ExitForm.TheVariants as exit
use Rattle.lang_meaning.specs.declared.scope.LexicalScope.{LexicalScope}
use Rattle.lang_meaning.specs.Form.{Form, form_and, ClauseForms, BindingForms, DynamicForms, literal, local, let_form, lambda, call, call_value, prim, clauses, block, tagbody, dynamic_let, go, parameters}
use Rattle.lang_meaning.specs.Arity.{arity}
use Rattle.lang_meaning.specs.Subforms.{forms_list, clause_list, value_list, dynamic_value_list, inner}
use Rattle.lang_meaning.specs.Counts.{count_forms, depth, greatest}
use Rattle.lang_meaning.specs.Mentions.{variables_bound}
use Rattle.lang_meaning.specs.Standing.{with_bound, with_around, is_variable, exit_around, is_block, is_segment}
use Rattle.lang_meaning.specs.model.View.{forms, forms_back}
use Rattle.lang_meaning.specs.bridge.Lengths.{forms_counted}
use Rattle.lang_meaning.specs.bridge.Judged.{fits_folded, stands_folded}
use Rattle.front_profile.specs.declared.elaboration.One.{One}
use Rattle.front_profile.specs.declared.elaboration.One.TheVariants.{SetVariable, ReturnTo}
use Rattle.lang_meaning.specs.declared.kinds.OverTwo.{OverTwo}
use Rattle.lang_meaning.specs.declared.kinds.OverTwo.TheVariants.{Apply, While, Catch, Throw, Unwind, WithHandler, Signal, Continue}
use Rattle.front_profile.specs.Elaborations.{body_of, one_of, two_of, make_segments}
use Rattle.front_profile.specs.Definitions.{Definitions, rows_of}
use Rattle.front_profile.specs.Right.{RightIn}
use Rattle.front_profile.proofs.Forms.{right_whole, depth_folded}
use Rattle.front_profile.proofs.Captured.{IsCaptured}

-- lists of forms

pub listed : (P : Form → Type 0) (fs : List Form) → AllOf P fs → AllOf P (forms_list (forms fs))
listed P fs e = subst (AllOf P) (sym (forms_back fs)) e

-- one form, two, and a form with a body

abbrev pub OneStands : LexicalScope → One → Type 0
OneStands s (SetVariable v) = is_variable s v ≡ true
OneStands s (ReturnTo x) = exit_around x s.exits ≡ Some exit.Block
OneStands s other = Unit {0}

pub made_one : (g : Definitions) (s : LexicalScope) (n : ℕ) (k : One) (f : Form) → n + 1 ≤ 1000 → OneStands s k → RightIn g s (n + 1) f → RightIn g s n (one_of k f)
made_one g s n (SetVariable v) f l h r = right_whole g s n _ refl refl l h refl (r, tt) tt
made_one g s n (ReturnTo x) f l h r = right_whole g s n _ refl refl l (ap is_block h) refl (r, tt) tt
made_one g s n other f l h r = right_whole g s n _ refl refl l refl refl (r, tt) tt

pub made_two : (g : Definitions) (s : LexicalScope) (n : ℕ) (k : OverTwo) (f h : Form) → n + 1 ≤ 1000 → RightIn g s (n + 1) f → RightIn g s (n + 1) h → RightIn g s n (two_of k f h)
made_two g s n Apply f h l r q = right_whole g s n _ refl refl l refl refl (r, (q, tt)) tt
made_two g s n While f h l r q = right_whole g s n _ refl refl l refl refl (r, (q, tt)) tt
made_two g s n Catch f h l r q = right_whole g s n _ refl refl l refl refl (r, (q, tt)) tt
made_two g s n Throw f h l r q = right_whole g s n _ refl refl l refl refl (r, (q, tt)) tt
made_two g s n Unwind f h l r q = right_whole g s n _ refl refl l refl refl (r, (q, tt)) tt
made_two g s n WithHandler f h l r q = right_whole g s n _ refl refl l refl refl (r, (q, tt)) tt
made_two g s n Signal f h l r q = right_whole g s n _ refl refl l refl refl (r, (q, tt)) tt
made_two g s n Continue f h l r q = right_whole g s n _ refl refl l refl refl (r, (q, tt)) tt

pub made_body : (g : Definitions) (s : LexicalScope) (n : ℕ) (fs : List Form) → n + 1 ≤ 1000 → AllOf (RightIn g s (n + 1)) fs → RightIn g s n (body_of fs)
made_body g s n fs l e = right_whole g s n _ refl refl l refl refl (listed _ fs e) tt

pub made_with_body : (g : Definitions) (s : LexicalScope) (n : ℕ) (k : OverTwo) (f : Form) (fs : List Form) → n + 1 + 1 ≤ 1000 → RightIn g s (n + 1) f
    → AllOf (RightIn g s (n + 1 + 1)) fs → RightIn g s n (two_of k f (body_of fs))
made_with_body g s n k f fs l r e = made_two g s n k f (body_of fs) (omega (arith, l)) r (made_body g s (n + 1) fs l e)

-- calls

pub made_call : (g : Definitions) (s : LexicalScope) (n name : ℕ) (fs : List Form) → n + 1 ≤ 1000 → AllOf (RightIn g s (n + 1)) fs → RightIn g s n (call name (forms fs))
made_call g s n name fs l e = right_whole g s n _ refl refl l refl refl (listed _ fs e) tt

pub made_call_value : (g : Definitions) (s : LexicalScope) (n : ℕ) (fs : List Form) → n + 1 ≤ 1000 → 1 ≤ length fs → AllOf (RightIn g s (n + 1)) fs
    → RightIn g s n (call_value (forms fs))
made_call_value g s n fs l k e =
    right_whole g s n _ refl refl l refl (le-leb 1 (count_forms (forms fs)) (omega (arith, k, forms_counted fs))) (listed _ fs e) tt

pub made_prim : (g : Definitions) (s : LexicalScope) (n : ℕ) (p : Primitive) (fs : List Form) → n + 1 ≤ 1000 → length fs ≡ arity p → AllOf (RightIn g s (n + 1)) fs
    → RightIn g s n (prim p (forms fs))
made_prim g s n p fs l k e =
    right_whole g s n _ refl refl l refl (eq-eqb (count_forms (forms fs)) (arity p) (forms_counted fs ∙ k)) (listed _ fs e) tt

pub made_local_call : (g : Definitions) (s : LexicalScope) (n v : ℕ) (fs : List Form) → n + 1 + 1 ≤ 1000 → is_variable s v ≡ true → AllOf (RightIn g s (n + 1)) fs
    → RightIn g s n (call_value (form_and (local v) (forms fs)))
made_local_call g s n v fs l h e =
    right_whole g s n _ refl refl (omega (arith, l)) refl
    (le-leb 1 (count_forms (forms fs) + 1) (omega arith))
    (right_whole g s (n + 1) (local v) refl refl l h refl tt tt, listed _ fs e) tt

-- clauses

pub made_clauses : (g : Definitions) (s : LexicalScope) (n : ℕ) (cs : ClauseForms) → n + 1 ≤ 1000 → AllOf (RightIn g s (n + 1)) (clause_list cs) → RightIn g s n (clauses cs)
made_clauses g s n cs l e = right_whole g s n _ refl refl l refl refl e tt

-- forms that bind

pub made_let : (g : Definitions) (s : LexicalScope) (n : ℕ) (bs : BindingForms) (fs : List Form) → n + 1 + 1 ≤ 1000 → AllOf (RightIn g s (n + 1)) (value_list bs)
    → AllOf (RightIn g (with_bound (variables_bound bs) s) (n + 1 + 1)) fs → RightIn g s n (let_form bs (body_of fs))
made_let g s n bs fs l e h =
    right_whole g s n _ refl refl (omega (arith, l)) refl refl e (made_body g (with_bound (variables_bound bs) s) (n + 1) fs l h, tt)

pub made_dynamic_let : (g : Definitions) (s : LexicalScope) (n : ℕ) (ds : DynamicForms) (fs : List Form) → n + 1 + 1 ≤ 1000 → AllOf (RightIn g s (n + 1)) (dynamic_value_list ds)
    → AllOf (RightIn g s (n + 1 + 1)) fs → RightIn g s n (dynamic_let ds (body_of fs))
made_dynamic_let g s n ds fs l e h =
    right_whole g s n _ refl refl (omega (arith, l)) refl refl e (made_body g s (n + 1) fs l h, tt)

pub made_block : (g : Definitions) (s : LexicalScope) (n x : ℕ) (fs : List Form) → n + 1 + 1 ≤ 1000 → AllOf (RightIn g (with_around x exit.Block s) (n + 1 + 1)) fs
    → RightIn g s n (block x (body_of fs))
made_block g s n x fs l h =
    right_whole g s n _ refl refl (omega (arith, l)) refl refl tt (made_body g (with_around x exit.Block s) (n + 1) fs l h, tt)

segments_right : (g : Definitions) (s : LexicalScope) (n : ℕ) (ns : List ℕ) (fs : List Form) → n + 1 ≤ 1000 → AllOf (RightIn g s (n + 1)) fs
    → AllOf (RightIn g s n) (forms_list (make_segments ns fs))
segments_right g s n [] fs l e = tt
segments_right g s n (k ∷ ks) fs l e =
    (made_body g s n (take k fs) l (all_take _ k fs e), segments_right g s n ks (drop k fs) l (all_drop _ k fs e))

segments_counted : (ns : List ℕ) (fs : List Form) → count_forms (make_segments ns fs) ≡ length ns
segments_counted [] fs = refl
segments_counted (n ∷ ns) fs = omega (arith, segments_counted ns (drop n fs))

pub made_tagbody : (g : Definitions) (s : LexicalScope) (n x tags : ℕ) (ns : List ℕ) (fs : List Form) → n + 1 + 1 ≤ 1000 → length ns ≡ tags + 1
    → AllOf (RightIn g (with_around x (exit.Tagbody (tags + 1)) s) (n + 1 + 1)) fs → RightIn g s n (tagbody x (make_segments ns fs))
made_tagbody g s n x tags ns fs l c h =
    let same : count_forms (make_segments ns fs) ≡ tags + 1 = segments_counted ns fs ∙ c in
    right_whole g s n _ refl refl (omega (arith, l)) refl (le-leb 1 (count_forms (make_segments ns fs)) (omega (arith, same))) tt
    (segments_right g (with_around x (exit.Tagbody (count_forms (make_segments ns fs))) s) (n + 1) ns fs l
    (subst (λ (k : ℕ). AllOf (RightIn g (with_around x (exit.Tagbody k) s) (n + 1 + 1)) fs) (sym same) h))

-- a function: its body begins a depth of its own

deep_function : (d a b o n : ℕ) (function : Bool) → d ≡ max a (if function then 0 else b) + o → o ≡ 1 → a ≡ 0 → function ≡ true → n + 1 ≤ 1000 → d + n ≤ 1000
deep_function d a b o n true e p q k l = omega arith
deep_function d a b o n false e p q k l = absurd (cc k)

pub made_lambda : (g : Definitions) (s : LexicalScope) (n : ℕ) (required : List ℕ) (rest : Option ℕ) (parts : List Captured) (fs : List Form) (t : LexicalScope) → n + 1 + 1 ≤ 1000
    → IsCaptured s (parameters required rest) (body_of fs) parts → AllOf (RightIn g t (n + 1 + 1)) fs
    → RightIn g s n (lambda required rest (body_of fs) parts)
made_lambda g s n required rest parts fs t l c e =
    let f : Form = lambda required rest (body_of fs) parts in
    let body : RightIn g t (n + 1) (body_of fs) = made_body g t (n + 1) fs l e in
    record {
      stands = stands_folded s f ∙ and_from _ _ (and_from _ _ c.captured refl) (and_from _ _ c.stands refl);
      fits = fits_folded (rows_of g) f
          ∙ and_from _ _ (and_from _ _ (le-leb (depth (body_of fs)) 1000 (omega (arith, body.deep))) refl) (and_from _ _ body.fits refl);
      deep = deep_function (depth f) 0 (greatest (map depth (inner f))) 1 n true (depth_folded f) refl refl refl (omega (arith, l));
    }

-- forms without parts

pub made_local : (g : Definitions) (s : LexicalScope) (n v : ℕ) → n + 1 ≤ 1000 → is_variable s v ≡ true → RightIn g s n (local v)
made_local g s n v l h = right_whole g s n (local v) refl refl l h refl tt tt

pub made_literal : (g : Definitions) (s : LexicalScope) (n i : ℕ) → n + 1 ≤ 1000 → i < length g.literals → RightIn g s n (literal i)
made_literal g s n i l h = right_whole g s n (literal i) refl refl l refl (lt-ltb i (length g.literals) h) tt tt

pub made_go : (g : Definitions) (s : LexicalScope) (n x i : ℕ) → n + 1 ≤ 1000 → is_segment i (exit_around x s.exits) ≡ true → RightIn g s n (go x i)
made_go g s n x i l h = right_whole g s n (go x i) refl refl l h refl tt tt
