-- Methods that are added one after another.
use Rattle.std.proofs.Common.{◌≡◌, ◌≤◌, ◌+◌, ℕ, Bool, List, ◌∷◌, length, drop, refl, ap, sym, subst, ◌∙◌}
use Rattle.std.proofs.lemmas.List.{drop_all}
use Rattle.base.specs.declared.datum.Name.{Name}
use Rattle.front_profile.specs.declared.tables.Tables.{Tables}
use Rattle.front_profile.specs.declared.elaboration.MethodHead.{MethodHead}
use Rattle.front_profile.specs.Elaborations.{with_generic, with_method_at, with_methods}
use Rattle.front_profile.specs.Marks.{TablesGrow}
use Rattle.front_profile.specs.Suits.{SuitsHead, SuitsHeads}
use Rattle.front_profile.specs.bridge.Growing.{tables_grow_reflexive, tables_grow_transitive, with_generic_grows, with_method_grows}

-- of the methods hs on s, those in front of ks were added, which led to t
pub record MethodsAdded (g : ℕ) (hs : List MethodHead) (p : ℕ) (s : Tables) (ks : List MethodHead) (q : ℕ) (t : Tables) : Type 0 where
  pub same : with_methods g ks q t ≡ with_methods g hs p s
  pub suits : SuitsHeads g ks q t
  pub grows : TablesGrow s t

-- none at first
pub no_methods : (g : ℕ) (hs : List MethodHead) (p : ℕ) (s : Tables) → SuitsHeads g hs p s → MethodsAdded g hs p s hs p s
no_methods g hs p s w = record { same = refl; suits = w; grows = tables_grow_reflexive s }

suits_first : (g : ℕ) (h : MethodHead) (ks ls : List MethodHead) (q : ℕ) (t : Tables) → ks ≡ h ∷ ls → SuitsHeads g ks q t → SuitsHeads g (h ∷ ls) q t
suits_first g h ks ls q t e w = subst (λ (xs : List MethodHead). SuitsHeads g xs q t) e w

-- the next one suits the tables
pub next_method : (g : ℕ) (hs : List MethodHead) (p : ℕ) (s : Tables) (ks : List MethodHead) (q : ℕ) (t : Tables) (h : MethodHead) (ls : List MethodHead)
    → MethodsAdded g hs p s ks q t → ks ≡ h ∷ ls → SuitsHead g h q t
next_method g hs p s ks q t h ls a e = (suits_first g h ks ls q t e a.suits).0

-- one more, before memory is wanting
pub grown : (g : ℕ) (hs : List MethodHead) (p : ℕ) (s : Tables) (ks : List MethodHead) (q : ℕ) (t : Tables) (h : MethodHead) (u : Tables)
    → MethodsAdded g hs p s ks q t → u ≡ with_method_at g h q t → TablesGrow s u
grown g hs p s ks q t h u a f = subst (λ (v : Tables). TablesGrow s v) (sym f) (with_method_grows s t g h q a.grows)

-- one more
pub one_method : (g : ℕ) (hs : List MethodHead) (p : ℕ) (s : Tables) (ks : List MethodHead) (q : ℕ) (t : Tables) (h : MethodHead) (ls : List MethodHead) (r : ℕ) (u : Tables)
    → MethodsAdded g hs p s ks q t → ks ≡ h ∷ ls → r ≡ q + 1 → u ≡ with_method_at g h q t → MethodsAdded g hs p s ls r u
one_method g hs p s ks q t h ls r u a e n f = record {
  same = ap (λ m. with_methods g ls m u) n ∙ ap (λ v. with_methods g ls (q + 1) v) f ∙ ap (λ xs. with_methods g xs q t) (sym e) ∙ a.same;
  suits =
      subst (λ (m : ℕ). SuitsHeads g ls m u) (sym n)
      (subst (λ (v : Tables). SuitsHeads g ls (q + 1) v) (sym f) (suits_first g h ks ls q t e a.suits).1);
  grows = grown g hs p s ks q t h u a f;
}

-- all of them
pub all_methods : (g : ℕ) (hs : List MethodHead) (p : ℕ) (s : Tables) (xs : List MethodHead) (i q : ℕ) (t : Tables)
    → MethodsAdded g hs p s (drop i xs) q t → length xs ≤ i → t ≡ with_methods g hs p s
all_methods g hs p s xs i q t a l = ap (λ ks. with_methods g ks q t) (sym (drop_all i xs l)) ∙ a.same

-- tables that have grown by a generic function, and then by more
pub generic_then : (s t u : Tables) (n : Name) (required : ℕ) (rest of_file : Bool) → t ≡ with_generic n required rest of_file s → TablesGrow t u → TablesGrow s u
generic_then s t u n required rest of_file e w =
    tables_grow_transitive s t u (subst (λ (v : Tables). TablesGrow s v) (sym e) (with_generic_grows s s n required rest of_file (tables_grow_reflexive s))) w

-- tables that are as they were have grown
pub same_grows : (s t : Tables) → t ≡ s → TablesGrow s t
same_grows s t e = subst (λ (v : Tables). TablesGrow s v) (sym e) (tables_grow_reflexive s)
