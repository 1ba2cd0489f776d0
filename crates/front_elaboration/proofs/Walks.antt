-- Forms one after another, of which the first were walked.
use Rattle.std.proofs.Common.{◌≡◌, ◌≤◌, ◌+◌, ℕ, Bool, true, false, not, ◌&&◌, ◌||◌, List, [], ◌∷◌, Some, take, refl, sym, ap, ◌∙◌, arith}
use Rattle.std.specs.Prelude.{Result, Ok, Err, IfOk, slice_get}
use Rattle.std.specs.List.{list_any}
use Rattle.lang_meaning.specs.declared.capture.Capture.{Capture}
use Rattle.lang_meaning.specs.Form.{Form}
use Rattle.lang_meaning.specs.declared.capture.Capture.TheVariants.{Variable}
use Rattle.lang_meaning.specs.declared.core_form.Binding.{Binding as Bound}
use Rattle.lang_meaning.specs.model.View.{bindings_of}
use Rattle.lang_meaning.specs.Mentions.{same_part, owns, variables_bound, names_part, binds, mentions}
use Rattle.lang_meaning.specs.Subforms.{outer, inner}
use Rattle.lang_meaning.specs.bridge.Judged.{mentions_folded}
use Rattle.lang_meaning.specs.bridge.Smaller.{sizes}
use Rattle.front_elaboration.specs.declared.mentioned.Mentioned.{Mentioned}
use Rattle.front_elaboration.specs.Mentioned.{has, AreParts}
use Rattle.front_elaboration.proofs.SetsOfParts.{or_false, not_more, one_more}

-- what they mention is there, besides what those that are left do
pub record Gathered (all : Mentioned) (fs left : List Form) : Type 0 where
  pub smaller : sizes left ≤ sizes fs
  pub parts : (p : Capture) → (has all p || list_any (mentions p) left) ≡ list_any (mentions p) fs

pub none_gathered : (m : Mentioned) (fs : List Form) → AreParts m (λ p. false) → Gathered m fs fs
none_gathered m fs h = record { smaller = omega arith; parts = λ p. ap (λ b. b || list_any (mentions p) fs) (h.so p) }

or_more : (a b c : Bool) → ((a || b) || c) ≡ (a || (b || c))
or_more true b c = refl
or_more false b c = refl

pub one_gathered : (m o n : Mentioned) (f : Form) (fs left rest : List Form) → Gathered m fs left → left ≡ f ∷ rest
    → AreParts o (λ p. mentions p f) → AreParts n (λ p. has m p || has o p) → Gathered n fs rest
one_gathered m o n f fs left rest g e h j = record {
  smaller = omega (arith, g.smaller, ap sizes e);
  parts = λ p.
      ap (λ b. b || list_any (mentions p) rest) (j.so p ∙ ap (λ b. has m p || b) (h.so p))
      ∙ or_more (has m p) (mentions p f) (list_any (mentions p) rest)
      ∙ ap (λ xs. has m p || list_any (mentions p) xs) (sym e)
      ∙ g.parts p;
}

pub all_gathered : (m : Mentioned) (fs left : List Form) → Gathered m fs left → left ≡ [] → AreParts m (λ p. list_any (mentions p) fs)
all_gathered m fs left g e = record { so = λ p. sym (or_false (has m p)) ∙ ap (λ xs. has m p || list_any (mentions p) xs) (sym e) ∙ g.parts p }

-- the form that was walked

folded_so : (f : Form) (o i m : Mentioned) (outs ins : List Form) → outs ≡ outer f → ins ≡ inner f
    → AreParts o (λ p. list_any (mentions p) outs) → AreParts i (λ p. list_any (mentions p) ins)
    → AreParts m (λ p. (names_part p f || has o p) || (not (binds p f) && has i p)) → AreParts m (λ p. mentions p f)
folded_so f o i m outs ins e d h g k = record {
  so = λ p.
      k.so p
      ∙ ap (λ b. (names_part p f || b) || (not (binds p f) && has i p)) (h.so p ∙ ap (list_any (mentions p)) e)
      ∙ ap (λ b. (names_part p f || list_any (mentions p) (outer f)) || (not (binds p f) && b)) (g.so p ∙ ap (list_any (mentions p)) d)
      ∙ sym (mentions_folded p f);
}

pub walked : {E : Type 0} (r : Result Mentioned E) (f : Form) (o i : Mentioned) (outs ins : List Form) → outs ≡ outer f → ins ≡ inner f
    → AreParts o (λ p. list_any (mentions p) outs) → AreParts i (λ p. list_any (mentions p) ins)
    → IfOk r (λ m. AreParts m (λ p. (names_part p f || has o p) || (not (binds p f) && has i p))) → IfOk r (λ m. AreParts m (λ p. mentions p f))
walked (Ok m) f o i outs ins e d h g k = folded_so f o i m outs ins e d h g k
walked (Err x) f o i outs ins e d h g k = tt

-- bindings of which the first are bound

bound_owns : (p : Capture) (bs : List Bound) → owns (variables_bound (bindings_of bs)) p ≡ list_any (λ (b : Bound). same_part p (Variable b.var)) bs
bound_owns p [] = refl
bound_owns p (b ∷ bs) = ap (λ x. same_part p (Variable b.var) || x) (bound_owns p bs)

pub binding_removed : (bs : List Bound) (i : ℕ) (b : Bound) (start m n : Mentioned) → slice_get bs i ≡ Some b
    → AreParts m (λ p. not (owns (variables_bound (bindings_of (take i bs))) p) && has start p)
    → AreParts n (λ p. not (same_part p (Variable b.var)) && has m p)
    → AreParts n (λ p. not (owns (variables_bound (bindings_of (take (i + 1) bs))) p) && has start p)
binding_removed bs i b start m n there g u = record {
  so = λ p.
      let q : Bound → Bool = λ c. same_part p (Variable c.var) in
      u.so p
      ∙ ap (λ x. not (q b) && x) (g.so p ∙ ap (λ x. not x && has start p) (bound_owns p (take i bs)))
      ∙ not_more (list_any q (take i bs)) (q b) (has start p)
      ∙ ap (λ x. not x && has start p) (one_more q bs i b there ∙ sym (bound_owns p (take (i + 1) bs)));
}
