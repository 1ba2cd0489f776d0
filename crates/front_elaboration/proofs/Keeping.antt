-- What is known of what was found, when a part more is.
use Rattle.std.proofs.Common.{◌≡◌, ℕ, Bool, true, false, ◌||◌, List, [], ◌∷◌, ◌++◌, refl, sym, ap, ◌∙◌}
use Rattle.std.specs.Prelude.{Result, Ok, Err, OnOk, OnErr}
use Rattle.std.specs.List.{list_any}
use Rattle.lang_meaning.specs.declared.capture.Capture.{Capture}
use Rattle.lang_meaning.specs.Form.{Form}
use Rattle.lang_meaning.specs.Subforms.{value_list}
use Rattle.lang_meaning.specs.Mentions.{mentions}
use Rattle.front_profile.specs.declared.elaboration.ElaboratedPart.{ElaboratedPart}
use Rattle.front_profile.specs.declared.elaboration.ElaboratedPart.TheVariants.{Value, Binding, Parameter}
use Rattle.front_profile.specs.Elaborations.{forms_found, bindings_found}
use Rattle.front_elaboration.specs.declared.mentioned.Mentioned.{Mentioned}
use Rattle.front_elaboration.specs.Mentioned.{has, AreParts}
use Rattle.front_elaboration.specs.Kept.{AreFoundParts}
use Rattle.front_elaboration.proofs.SetsOfParts.{or_false}

or_more : (a b c : Bool) → (a || (b || c)) ≡ ((a || b) || c)
or_more true b c = refl
or_more false b c = refl

-- whether a part mentions something as a form, and as the value of a variable

abbrev as_form : Capture → ElaboratedPart → Bool
as_form p (Value f) = mentions p f
as_form p (Binding v f) = false
as_form p (Parameter v) = false

abbrev as_value : Capture → ElaboratedPart → Bool
as_value p (Value f) = false
as_value p (Binding v f) = mentions p f
as_value p (Parameter v) = false

forms_more : (p : Capture) (rs : List ElaboratedPart) (x : ElaboratedPart)
    → list_any (mentions p) (forms_found (rs ++ x ∷ [])) ≡ (list_any (mentions p) (forms_found rs) || as_form p x)
forms_more p [] (Value f) = or_false (mentions p f)
forms_more p [] (Binding v f) = refl
forms_more p [] (Parameter v) = refl
forms_more p (Value f ∷ rs) x = ap (λ b. mentions p f || b) (forms_more p rs x) ∙ or_more (mentions p f) (list_any (mentions p) (forms_found rs)) (as_form p x)
forms_more p (Binding v f ∷ rs) x = forms_more p rs x
forms_more p (Parameter v ∷ rs) x = forms_more p rs x

values_more : (p : Capture) (rs : List ElaboratedPart) (x : ElaboratedPart)
    → list_any (mentions p) (value_list (bindings_found (rs ++ x ∷ []))) ≡ (list_any (mentions p) (value_list (bindings_found rs)) || as_value p x)
values_more p [] (Value f) = refl
values_more p [] (Binding v f) = or_false (mentions p f)
values_more p [] (Parameter v) = refl
values_more p (Value f ∷ rs) x = values_more p rs x
values_more p (Binding v f ∷ rs) x =
    ap (λ b. mentions p f || b) (values_more p rs x) ∙ or_more (mentions p f) (list_any (mentions p) (value_list (bindings_found rs))) (as_value p x)
values_more p (Parameter v ∷ rs) x = values_more p rs x

-- nothing

pub none_kept : (rs : List ElaboratedPart) (vs bs : Mentioned) → rs ≡ [] → AreParts vs (λ p. false) → AreParts bs (λ p. false) → AreFoundParts rs vs bs
none_kept rs vs bs e v b = rw e (record { values = v; bindings = b })

-- a part more

pub value_kept : (rs after : List ElaboratedPart) (f : Form) (vs bs us m : Mentioned) → AreFoundParts rs vs bs → after ≡ rs ++ Value f ∷ []
    → AreParts m (λ p. mentions p f) → AreParts us (λ p. has vs p || has m p) → AreFoundParts after us bs
value_kept rs after f vs bs us m k e h u =
    rw e
    (record {
      values = record { so = λ p. u.so p ∙ ap (λ b. b || has m p) (k.values.so p) ∙ ap (λ b. list_any (mentions p) (forms_found rs) || b) (h.so p) ∙ sym (forms_more p rs (Value f)) };
      bindings = record { so = λ p. k.bindings.so p ∙ sym (or_false (list_any (mentions p) (value_list (bindings_found rs)))) ∙ sym (values_more p rs (Value f)) };
    })

pub binding_kept : (rs after : List ElaboratedPart) (v : ℕ) (f : Form) (vs bs cs m : Mentioned) → AreFoundParts rs vs bs → after ≡ rs ++ Binding v f ∷ []
    → AreParts m (λ p. mentions p f) → AreParts cs (λ p. has bs p || has m p) → AreFoundParts after vs cs
binding_kept rs after v f vs bs cs m k e h u =
    rw e
    (record {
      values = record { so = λ p. k.values.so p ∙ sym (or_false (list_any (mentions p) (forms_found rs))) ∙ sym (forms_more p rs (Binding v f)) };
      bindings = record {
        so = λ p. u.so p ∙ ap (λ b. b || has m p) (k.bindings.so p) ∙ ap (λ b. list_any (mentions p) (value_list (bindings_found rs)) || b) (h.so p)
            ∙ sym (values_more p rs (Binding v f));
      };
    })

one_parameter : (rs after : List ElaboratedPart) (v : ℕ) (vs bs : Mentioned) → AreFoundParts rs vs bs → after ≡ rs ++ Parameter v ∷ [] → AreFoundParts after vs bs
one_parameter rs after v vs bs k e =
    rw e
    (record {
      values = record { so = λ p. k.values.so p ∙ sym (or_false (list_any (mentions p) (forms_found rs))) ∙ sym (forms_more p rs (Parameter v)) };
      bindings = record { so = λ p. k.bindings.so p ∙ sym (or_false (list_any (mentions p) (value_list (bindings_found rs)))) ∙ sym (values_more p rs (Parameter v)) };
    })

pub parameter_kept : {T E : Type 0} (r : Result T E) (rs after : List ElaboratedPart) (v : ℕ) (vs bs : Mentioned) → AreFoundParts rs vs bs
    → OnOk r (after ≡ rs ++ Parameter v ∷ []) → OnErr r (after ≡ rs) → AreFoundParts after vs bs
parameter_kept (Ok x) rs after v vs bs k e d = one_parameter rs after v vs bs k e
parameter_kept (Err x) rs after v vs bs k e d = rw d k
