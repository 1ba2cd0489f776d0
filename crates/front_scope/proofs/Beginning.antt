-- The tables in front of all forms.
use Rattle.std.proofs.Common.{◌≡◌, ℕ, List, Result, Ok, Err, OnOk, OnErr, refl, subst, sym}
use Rattle.base.specs.Names.{Extends, with_text, Extends-same, Extends-with_text, text_stays}
use Rattle.front_profile.specs.declared.tables.ReservedWords.{ReservedWords}
use Rattle.lang_classes.specs.InheritedClasses.{Hierarchy}
use Rattle.lang_classes.specs.InheritedBuiltIn.{AreBuiltIn}
use Rattle.front_profile.specs.declared.tables.Tables.{Tables}
use Rattle.front_scope.specs.Scopes.{AreWords, first_tables, AreInitialTables}

-- a table of names that a text was looked up in, with or without memory
pub looked_up : {T E : Type 0} (r : Result T E) (old new : List (List ℕ)) (t : List ℕ) → OnOk r (new ≡ with_text old t) → OnErr r (new ≡ old) → Extends old new
looked_up (Ok x) old new t e h = subst (λ ns. Extends old ns) (sym e) (Extends-with_text old t)
looked_up (Err x) old new t e h = subst (λ ns. Extends old ns) (sym h) (Extends-same old)

pub words_stay : (old new : List (List ℕ)) (w : ReservedWords) → Extends old new → AreWords old w → AreWords new w
words_stay old new w x a = record {
  truth = text_stays old new _ _ x a.truth;
  rest = text_stays old new _ _ x a.rest;
  and_rest = text_stays old new _ _ x a.and_rest;
}

pub is_first : (old new : List (List ℕ)) (w : ReservedWords) (h : Hierarchy) (t : Tables) → Extends old new → AreWords old w → AreBuiltIn new h →
    t ≡ first_tables w h → AreInitialTables new t
is_first old new w h t x a b e =
    subst (λ (u : Tables). AreInitialTables new u) (sym e) (record { words = words_stay old new w x a; classes = b; nothing_else = refl })
