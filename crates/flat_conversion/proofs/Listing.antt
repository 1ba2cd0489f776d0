-- The binders of a form are its own, and those of the forms right inside it; and lists of them that grow.
use Rattle.std.proofs.Common.{◌≡◌, ◌≤◌, ℕ, ◌+◌, false, ◌||◌, List, [], ◌∷◌, ◌++◌, refl, sym, ap, subst, ◌∙◌, Option, Some, length, drop, arith, append_assoc, length-append}
use Rattle.std.specs.Prelude.{map, slice_get, slice_set}
use Rattle.std.specs.List.{list_any}
use Rattle.std.proofs.lemmas.List.{append-nil}
use Rattle.std.proofs.Math.Seq.{drop-append_seam, set-append_seam}
use Rattle.base.specs.model.DataRest.{rest_at}
use Rattle.lang_meaning.specs.declared.capture.Capture.{Capture}
use Rattle.lang_meaning.specs.declared.capture.Capture.TheVariants.{Variable, Method}
use Rattle.lang_meaning.specs.Captured.{captures, sets, sets_itself}
use Rattle.lang_meaning.specs.Form.{Form, BindingForms, let_form, lambda, parameters}
use Rattle.lang_meaning.specs.Meaning.{bound_variables}
use Rattle.lang_meaning.specs.Mentions.{same_part}
use Rattle.lang_meaning.specs.Subforms.{outer, inner}
use Rattle.lang_meaning.specs.declared.program.Procedure.{Procedure}
use Rattle.lang_meaning.specs.bridge.Smaller.{sizes}
use Rattle.lang_meaning.specs.bridge.Walks.{folded}
use Rattle.flat_conversion.specs.declared.marks.Marks.{Marks}
use Rattle.flat_conversion.specs.declared.variables.Binder.{Binder}
use Rattle.flat_conversion.specs.Binders.{binder, own_binders, all_before, binders_step, binders, binders_of_procedures, binders_of_mains}
use Rattle.flat_conversion.specs.Listing.{BindsNothing, Lists, ListsAll, ListsBody}
use Rattle.flat_conversion.specs.Marks.{Adds, is_set, is_captured}
use Rattle.flat_conversion.proofs.Marking.{or_assoc, or_false, plain_marked, let_marked, function_marked}

-- with the binders and the marks of the forms that are left all are there
pub record ToList (before : List Binder) (first : Marks) (all : List Form) (made : List Binder) (now : Marks) (left : List Form) : Type 0 where
  pub smaller : sizes left ≤ sizes all
  pub put : (rest : List Binder) → made ++ all_before (map binders left) rest ≡ before ++ all_before (map binders all) rest
  pub set_so : (v : ℕ) → (is_set now v || list_any (sets v) left) ≡ (is_set first v || list_any (sets v) all)
  pub captured_so : (v : ℕ) → (is_captured now v || list_any (captures (Variable v)) left) ≡ (is_captured first v || list_any (captures (Variable v)) all)
  pub method_so : (now.method || list_any (captures Method) left) ≡ (first.method || list_any (captures Method) all)

pub to_list : (before : List Binder) (first : Marks) (all : List Form) → ToList before first all before first all
to_list before first all = record { smaller = omega arith; put = λ rest. refl; set_so = λ v. refl; captured_so = λ v. refl; method_so = refl }

-- a form more is listed
pub one_listed : (before : List Binder) (first : Marks) (all : List Form) (made : List Binder) (now : Marks) (f : Form) (left : List Form) (after : List Binder) (then_marks : Marks)
    → ToList before first all made now (f ∷ left) → Lists f made after now then_marks → ToList before first all after then_marks left
one_listed before first all made now f left after then_marks g h = record {
  smaller = omega (arith, g.smaller);
  put = λ rest. h.put (all_before (map binders left) rest) ∙ g.put rest;
  set_so = λ v. ap (λ b. b || list_any (sets v) left) (h.marked.set_so v) ∙ or_assoc (is_set now v) (sets v f) (list_any (sets v) left) ∙ g.set_so v;
  captured_so = λ v. ap (λ b. b || list_any (captures (Variable v)) left) (h.marked.captured_so v) ∙ or_assoc (is_captured now v) (captures (Variable v) f) (list_any (captures (Variable v)) left) ∙ g.captured_so v;
  method_so = ap (λ b. b || list_any (captures Method) left) h.marked.method_so ∙ or_assoc now.method (captures Method f) (list_any (captures Method) left) ∙ g.method_so;
}

pub all_listed : (before : List Binder) (first : Marks) (all : List Form) (made : List Binder) (now : Marks) → ToList before first all made now [] → ListsAll all before made first now
all_listed before first all made now g = record {
  put = g.put;
  marked = record {
    set_so = λ v. sym (or_false (is_set now v)) ∙ g.set_so v;
    captured_so = λ v. sym (or_false (is_captured now v)) ∙ g.captured_so v;
    method_so = sym (or_false now.method) ∙ g.method_so;
  };
}

binders_folded : (f : Form) (rest : List Binder) → own_binders f ++ all_before (map binders (outer f)) (all_before (map binders (inner f)) rest) ≡ binders f rest
binders_folded f rest = sym (ap (λ (g : List Binder → List Binder). g rest) (folded binders_step f))

-- a form that binds no variables
pub plain_listed : (f : Form) → BindsNothing f → (outs ins : List Form) → outs ≡ outer f → ins ≡ inner f → (before between after : List Binder) (a b d e : Marks)
    → Adds a b (λ v. sets_itself v f) (λ v. false) false → ListsAll outs before between b d → ListsAll ins between after d e → Lists f before after a e
plain_listed f plain outs ins o i before between after a b d e first second third = record {
  put = λ rest.
      third.put rest
      ∙ second.put (all_before (map binders ins) rest)
      ∙ ap (λ fs. before ++ all_before (map binders fs) (all_before (map binders ins) rest)) o
      ∙ ap (λ fs. before ++ all_before (map binders (outer f)) (all_before (map binders fs) rest)) i
      ∙ ap (λ own. before ++ (own ++ all_before (map binders (outer f)) (all_before (map binders (inner f)) rest))) (sym plain.own)
      ∙ ap (λ ys. before ++ ys) (binders_folded f rest);
  marked = plain_marked f plain outs ins o i a b d e first second.marked third.marked;
}

-- a binder in the place that was reserved for it
replaced : (xs : List Binder) (r p : Binder) (ys : List Binder) → slice_set ((xs ++ r ∷ []) ++ ys) (length xs) p ≡ xs ++ p ∷ ys
replaced xs r p ys = ap (λ zs. slice_set zs (length xs) p) (append_assoc xs (r ∷ []) ys) ∙ set-append_seam xs r ys p

pub placed : (xs : List Binder) (r p : Binder) (between all after : List Binder) (number : ℕ) (behind : List Binder → List Binder)
    → between ≡ xs ++ r ∷ [] → ((rest : List Binder) → all ++ rest ≡ between ++ behind rest) → number ≡ length xs → after ≡ slice_set all number p
    → (rest : List Binder) → after ++ rest ≡ xs ++ p ∷ behind rest
placed xs r p between all after number behind b a n e rest =
    let whole : all ≡ between ++ behind [] = sym (append-nil all) ∙ a [] in
    let same : behind [] ++ rest ≡ behind rest =
    sym (drop-append_seam between (behind [] ++ rest))
    ∙ ap (drop (length between)) (sym (append_assoc between (behind []) rest) ∙ ap (λ ys. ys ++ rest) (sym whole) ∙ a rest)
    ∙ drop-append_seam between (behind rest) in
    ap (λ ys. ys ++ rest)
    (e ∙ ap (λ k. slice_set all k p) n ∙ ap (λ ys. slice_set ys (length xs) p) (whole ∙ ap (λ ys. ys ++ behind []) b) ∙ replaced xs r p (behind []))
    ∙ append_assoc xs (p ∷ behind []) rest
    ∙ ap (λ ys. xs ++ p ∷ ys) same

-- what was reserved is still there
pub still_there : (between all : List Binder) (behind : List Binder → List Binder) → ((rest : List Binder) → all ++ rest ≡ between ++ behind rest) → length between ≤ length all
still_there between all behind a =
    omega (arith, ap length (sym (append-nil all) ∙ a []), length-append between (behind []))

pub let_listed : (bs : BindingForms) (body : Form) (f : Form) → f ≡ let_form bs body → (vs : List ℕ) → vs ≡ bound_variables bs → (outs : List Form) → outs ≡ outer f → (before pushed valued after : List Binder) (reserved : Binder) (number : ℕ) (a b d inside : Marks)
    → number ≡ length before → pushed ≡ before ++ reserved ∷ [] → ListsAll outs pushed valued a b → ListsBody vs body number valued after inside → Adds b d (is_set inside) (is_captured inside) inside.method
    → Lists f before after a d
let_listed bs body f same vs are outs o before pushed valued after reserved number a b d inside n p values within joined =
    let P : Form → Type 0 = λ x. Lists x before after a d in
    let Q : List ℕ → Type 0 = λ us. ListsBody us body number valued after inside in
    let g = subst Q are within in
    let o2 : outs ≡ outer (let_form bs body) = o ∙ ap outer same in
    subst P (sym same)
    (record {
      put = λ rest.
          placed before reserved (binder (bound_variables bs) body) pushed g.all after number (λ r. all_before (map binders outs) (binders body r)) p
          (λ r. g.put r ∙ values.put (binders body r)) n g.placed rest
          ∙ ap (λ fs. before ++ binder (bound_variables bs) body ∷ all_before (map binders fs) (binders body rest)) o2
          ∙ ap (λ ys. before ++ ys) (binders_folded (let_form bs body) rest);
      marked = let_marked bs body outs o2 a b d inside values.marked g.marked joined;
    })

pub function_listed : (required : List ℕ) (rest : Option ℕ) (body : Form) (parts : List Capture) (vs : List ℕ) → vs ≡ parameters required rest → (before pushed after : List Binder) (reserved : Binder) (number : ℕ) (a b d inside : Marks)
    → number ≡ length before → pushed ≡ before ++ reserved ∷ [] → ListsBody vs body number pushed after inside
    → Adds a b (is_set inside) (λ v. false) false → Adds b d (λ v. false) (λ v. list_any (same_part (Variable v)) parts) (list_any (same_part Method) parts)
    → Lists (lambda required rest body parts) before after a d
function_listed required rest body parts vs are before pushed after reserved number a b d inside n p within joined captured =
    let Q : List ℕ → Type 0 = λ us. ListsBody us body number pushed after inside in
    let g = subst Q are within in
    record {
      put = placed before reserved (binder (parameters required rest) body) pushed g.all after number (binders body) p g.put n g.placed;
      marked = function_marked required rest body parts a b d inside g.marked joined captured;
    }

-- a procedure more
pub procedure_listed : (ps : List Procedure) (at : ℕ) (p : Procedure) (vs : List ℕ) → vs ≡ parameters p.required p.rest → (before made pushed after : List Binder) (reserved : Binder) (number : ℕ) (inside : Marks) → slice_get ps at ≡ Some p
    → ((rest : List Binder) → made ++ binders_of_procedures (drop at ps) rest ≡ before ++ binders_of_procedures ps rest)
    → number ≡ length made → pushed ≡ made ++ reserved ∷ [] → ListsBody vs p.body number pushed after inside
    → (rest : List Binder) → after ++ binders_of_procedures (drop (at + 1) ps) rest ≡ before ++ binders_of_procedures ps rest
procedure_listed ps at p vs are before made pushed after reserved number inside h going n e within rest =
    let Q : List ℕ → Type 0 = λ us. ListsBody us p.body number pushed after inside in
    let g = subst Q are within in
    placed made reserved (binder (parameters p.required p.rest) p.body) pushed g.all after number (binders p.body) e g.put n g.placed (binders_of_procedures (drop (at + 1) ps) rest)
    ∙ ap (λ qs. made ++ binders_of_procedures qs rest) (sym (rest_at ps at p h))
    ∙ going rest

-- a main form more
pub main_listed : (fs : List Form) (at : ℕ) (f : Form) (before made after : List Binder) → slice_get fs at ≡ Some f
    → ((rest : List Binder) → made ++ binders_of_mains (drop at fs) rest ≡ before ++ binders_of_mains fs rest)
    → ((rest : List Binder) → after ++ rest ≡ made ++ binders f rest)
    → (rest : List Binder) → after ++ binders_of_mains (drop (at + 1) fs) rest ≡ before ++ binders_of_mains fs rest
main_listed fs at f before made after h going put rest =
    put (binders_of_mains (drop (at + 1) fs) rest) ∙ ap (λ gs. made ++ binders_of_mains gs rest) (sym (rest_at fs at f h)) ∙ going rest
