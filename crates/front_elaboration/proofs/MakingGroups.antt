-- Groups that were made so far, with those behind them.
use Rattle.std.proofs.Common.{◌≡◌, ◌≤◌, ◌<◌, ℕ, ◌+◌, List, [], ◌∷◌, ◌++◌, Option, length, drop, take, get_or, suc, refl, ap, sym, ◌∙◌, add-one, drop-cons}
use Rattle.std.proofs.lemmas.List.{drop_all}
use Rattle.base.specs.declared.datum.Name.{Name}
use Rattle.lang_meaning.specs.Form.{Form, Forms, no_form, form_and, ClauseForms, no_clause, clause_and, DynamicForms, no_dynamic, dynamic_and}
use Rattle.lang_meaning.specs.declared.core_form.Clause.{Clause}
use Rattle.lang_meaning.specs.declared.core_form.DynBinding.{DynBinding}
use Rattle.lang_meaning.specs.model.View.{forms, maybe_form, clauses_of, dynamics_of}
use Rattle.front_profile.specs.Elaborations.{body_of, clause_body, behind_clause, make_clauses, make_segments, make_dynamics, behind_dynamics}

-- an item in front of those behind it
front : {X : Type 0} (xs ys : List X) (i : ℕ) (d : X) → ys ≡ xs → i < length ys → drop i xs ≡ get_or ys i d ∷ drop (i + 1) xs
front xs ys i d e l = rw (add-one i) (ap (λ zs. drop i zs) (sym e) ∙ drop-cons ys i d l ∙ ap (λ zs. get_or ys i d ∷ drop (suc i) zs) e)

-- clauses

abbrev pub clauses_before : List Clause → ClauseForms → ClauseForms
clauses_before [] rest = rest
clauses_before (c ∷ cs) rest = clause_and c.test (maybe_form c.body) (clauses_before cs rest)

one_clause_more : (cs : List Clause) (c : Clause) (rest : ClauseForms)
    → clauses_before (cs ++ c ∷ []) rest ≡ clauses_before cs (clause_and c.test (maybe_form c.body) rest)
one_clause_more [] c rest = refl
one_clause_more (d ∷ cs) c rest = ap (λ r. clause_and d.test (maybe_form d.body) r) (one_clause_more cs c rest)

before_no_clause : (cs : List Clause) → clauses_of cs ≡ clauses_before cs no_clause
before_no_clause [] = refl
before_no_clause (c ∷ cs) = ap (λ r. clause_and c.test (maybe_form c.body) r) (before_no_clause cs)

this_clause : (c : Clause) (n : Option ℕ) (ns : List (Option ℕ)) (r s : List Form) → maybe_form c.body ≡ clause_body n r → s ≡ behind_clause n r
    → clause_and c.test (maybe_form c.body) (make_clauses ns s) ≡ make_clauses (n ∷ ns) (c.test ∷ r)
this_clause c n ns r s b e = cc

pub clauses_go_on : (cs after : List Clause) (c : Clause) (ns ms : List (Option ℕ)) (i : ℕ) (d : Option ℕ) (q r s : List Form) (whole : ClauseForms)
    → ms ≡ ns → i < length ms → after ≡ cs ++ c ∷ [] → q ≡ c.test ∷ r
    → maybe_form c.body ≡ clause_body (get_or ms i d) r → s ≡ behind_clause (get_or ms i d) r
    → clauses_before cs (make_clauses (drop i ns) q) ≡ whole → clauses_before after (make_clauses (drop (i + 1) ns) s) ≡ whole
clauses_go_on cs after c ns ms i d q r s whole e l a f b g h =
    ap (λ x. clauses_before x (make_clauses (drop (i + 1) ns) s)) a
    ∙ one_clause_more cs c (make_clauses (drop (i + 1) ns) s)
    ∙ ap (λ x. clauses_before cs x) (this_clause c (get_or ms i d) (drop (i + 1) ns) r s b g)
    ∙ ap (λ xs. clauses_before cs (make_clauses xs (c.test ∷ r))) (sym (front ns ms i d e l))
    ∙ ap (λ x. clauses_before cs (make_clauses (drop i ns) x)) (sym f)
    ∙ h

none_of_none : (ns : List (Option ℕ)) → make_clauses ns [] ≡ no_clause
none_of_none [] = refl
none_of_none (n ∷ ns) = refl

pub clauses_stop : (cs : List Clause) (ns : List (Option ℕ)) (q : List Form) (whole : ClauseForms) → q ≡ []
    → clauses_before cs (make_clauses ns q) ≡ whole → clauses_of cs ≡ whole
clauses_stop cs ns q whole e h =
    before_no_clause cs ∙ ap (λ r. clauses_before cs r) (sym (ap (λ x. make_clauses ns x) e ∙ none_of_none ns)) ∙ h

pub clauses_end : (cs : List Clause) (ns : List (Option ℕ)) (i : ℕ) (q : List Form) (whole : ClauseForms) → length ns ≤ i
    → clauses_before cs (make_clauses (drop i ns) q) ≡ whole → clauses_of cs ≡ whole
clauses_end cs ns i q whole l h =
    before_no_clause cs ∙ ap (λ ms. clauses_before cs (make_clauses ms q)) (sym (drop_all i ns l)) ∙ h

-- segments

abbrev pub segments_before : List Form → Forms → Forms
segments_before [] rest = rest
segments_before (f ∷ fs) rest = form_and f (segments_before fs rest)

one_segment_more : (fs : List Form) (f : Form) (rest : Forms) → segments_before (fs ++ f ∷ []) rest ≡ segments_before fs (form_and f rest)
one_segment_more [] f rest = refl
one_segment_more (g ∷ fs) f rest = ap (λ r. form_and g r) (one_segment_more fs f rest)

before_no_segment : (fs : List Form) → forms fs ≡ segments_before fs no_form
before_no_segment [] = refl
before_no_segment (f ∷ fs) = ap (λ r. form_and f r) (before_no_segment fs)

pub segments_go_on : (fs after : List Form) (f : Form) (ns ms : List ℕ) (i d : ℕ) (q s taken : List Form) (whole : Forms)
    → ms ≡ ns → i < length ms → after ≡ fs ++ f ∷ [] → f ≡ body_of taken → taken ≡ take (get_or ms i d) q → s ≡ drop (get_or ms i d) q
    → segments_before fs (make_segments (drop i ns) q) ≡ whole → segments_before after (make_segments (drop (i + 1) ns) s) ≡ whole
segments_go_on fs after f ns ms i d q s taken whole e l a b t g h =
    ap (λ x. segments_before x (make_segments (drop (i + 1) ns) s)) a
    ∙ one_segment_more fs f (make_segments (drop (i + 1) ns) s)
    ∙ ap (λ x. segments_before fs (form_and x (make_segments (drop (i + 1) ns) s))) (b ∙ ap body_of t)
    ∙ ap (λ x. segments_before fs (form_and (body_of (take (get_or ms i d) q)) (make_segments (drop (i + 1) ns) x))) g
    ∙ ap (λ xs. segments_before fs (make_segments xs q)) (sym (front ns ms i d e l))
    ∙ h

pub segments_end : (fs : List Form) (ns : List ℕ) (i : ℕ) (q : List Form) (whole : Forms) → length ns ≤ i
    → segments_before fs (make_segments (drop i ns) q) ≡ whole → forms fs ≡ whole
segments_end fs ns i q whole l h =
    before_no_segment fs ∙ ap (λ ms. segments_before fs (make_segments ms q)) (sym (drop_all i ns l)) ∙ h

-- dynamic variables with their values

abbrev pub dynamics_before : List DynBinding → DynamicForms → DynamicForms
dynamics_before [] rest = rest
dynamics_before (b ∷ bs) rest = dynamic_and b.name.0 b.value (dynamics_before bs rest)

one_dynamic_more : (bs : List DynBinding) (b : DynBinding) (rest : DynamicForms)
    → dynamics_before (bs ++ b ∷ []) rest ≡ dynamics_before bs (dynamic_and b.name.0 b.value rest)
one_dynamic_more [] b rest = refl
one_dynamic_more (c ∷ bs) b rest = ap (λ r. dynamic_and c.name.0 c.value r) (one_dynamic_more bs b rest)

before_no_dynamic : (bs : List DynBinding) → dynamics_of bs ≡ dynamics_before bs no_dynamic
before_no_dynamic [] = refl
before_no_dynamic (b ∷ bs) = ap (λ r. dynamic_and b.name.0 b.value r) (before_no_dynamic bs)

pub dynamics_go_on : (bs after : List DynBinding) (f : Form) (ns ms : List Name) (i : ℕ) (d : Name) (q r : List Form) (whole : DynamicForms)
    → ms ≡ ns → i < length ms → after ≡ bs ++ (record { name = get_or ms i d; value = f }) ∷ [] → q ≡ f ∷ r
    → dynamics_before bs (make_dynamics (drop i ns) q) ≡ whole → dynamics_before after (make_dynamics (drop (i + 1) ns) r) ≡ whole
dynamics_go_on bs after f ns ms i d q r whole e l a g h =
    ap (λ x. dynamics_before x (make_dynamics (drop (i + 1) ns) r)) a
    ∙ one_dynamic_more bs (record { name = get_or ms i d; value = f }) (make_dynamics (drop (i + 1) ns) r)
    ∙ ap (λ xs. dynamics_before bs (make_dynamics xs (f ∷ r))) (sym (front ns ms i d e l))
    ∙ ap (λ x. dynamics_before bs (make_dynamics (drop i ns) x)) (sym g)
    ∙ h

pub behind_goes_on : (f : Form) (ns ms : List Name) (i : ℕ) (d : Name) (q r whole : List Form)
    → ms ≡ ns → i < length ms → q ≡ f ∷ r
    → behind_dynamics (drop i ns) q ≡ whole → behind_dynamics (drop (i + 1) ns) r ≡ whole
behind_goes_on f ns ms i d q r whole e l g h =
    ap (λ xs. behind_dynamics xs (f ∷ r)) (sym (front ns ms i d e l)) ∙ ap (λ x. behind_dynamics (drop i ns) x) (sym g) ∙ h

no_dynamics : (ns : List Name) → make_dynamics ns [] ≡ no_dynamic
no_dynamics [] = refl
no_dynamics (n ∷ ns) = refl

pub dynamics_stop : (bs : List DynBinding) (ns : List Name) (q : List Form) (whole : DynamicForms) → q ≡ []
    → dynamics_before bs (make_dynamics ns q) ≡ whole → dynamics_of bs ≡ whole
dynamics_stop bs ns q whole e h =
    before_no_dynamic bs ∙ ap (λ r. dynamics_before bs r) (sym (ap (λ x. make_dynamics ns x) e ∙ no_dynamics ns)) ∙ h

pub dynamics_end : (bs : List DynBinding) (ns : List Name) (i : ℕ) (q : List Form) (whole : DynamicForms) → length ns ≤ i
    → dynamics_before bs (make_dynamics (drop i ns) q) ≡ whole → dynamics_of bs ≡ whole
dynamics_end bs ns i q whole l h =
    before_no_dynamic bs ∙ ap (λ ms. dynamics_before bs (make_dynamics ms q)) (sym (drop_all i ns l)) ∙ h

behind_none : (ns : List Name) → behind_dynamics ns [] ≡ []
behind_none [] = refl
behind_none (n ∷ ns) = refl

pub behind_stops : (ns : List Name) (q r whole : List Form) → q ≡ [] → r ≡ [] → behind_dynamics ns q ≡ whole → r ≡ whole
behind_stops ns q r whole e f h = f ∙ sym (ap (λ x. behind_dynamics ns x) e ∙ behind_none ns) ∙ h

pub behind_ends : (ns : List Name) (i : ℕ) (q whole : List Form) → length ns ≤ i → behind_dynamics (drop i ns) q ≡ whole → q ≡ whole
behind_ends ns i q whole l h = ap (λ ms. behind_dynamics ms q) (sym (drop_all i ns l)) ∙ h
