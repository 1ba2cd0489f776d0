-- The form that prints the value of another.
use Rattle.std.proofs.Common.{◌≡◌, ℕ, ◌<◌, List, [], ◌∷◌, ◌++◌, length, Result, Ok, Err, IfOk, ap, sym, subst, ◌∙◌}
use Rattle.std.specs.Prelude.{codes}
use Rattle.base.specs.declared.place.Place.{Place}
use Rattle.base.specs.declared.datum.Name.{Name}
use Rattle.base.specs.Data.{Item, item, string, place_of}
use Rattle.base.specs.DataMeasures.{Formed, NamesBelow}
use Rattle.base.specs.WellFormedData.{WellFormed}
use Rattle.base.specs.Names.{Extends, Extends-with_text, with_text}
use Rattle.front_files.specs.Shown.{named_at, list_at, printing_at, IsPrinting}
use Rattle.front_files.specs.bridge.First.{below_length}

-- what holds of a value holds of it with what follows from it
pub ok_map : {T E : Type 0} (r : Result T E) (P Q : T → Type 0) → ((x : T) → P x → Q x) → IfOk r P → IfOk r Q
ok_map (Ok x) P Q f h = f x h
ok_map (Err e) P Q f h = tt

-- a table with one more text
pub interned : (old new : List (List ℕ)) (t : List ℕ) → new ≡ with_text old t → Extends old new
interned old new t e = subst (λ ns. Extends old ns) (sym e) (Extends-with_text old t)

pub put_together : (d e : Item) (p : Place) (format standard_output : Name) (front items : List Item) → place_of d ≡ p →
    front ≡ named_at p format ∷ list_at p (named_at p standard_output ∷ []) ∷ item p (string (codes "~S~%")) ∷ [] → items ≡ front ++ d ∷ [] →
    e ≡ list_at p items → e ≡ printing_at (place_of d) format standard_output d
put_together d e p format standard_output front items place f i h =
    h ∙ ap (list_at p) (i ∙ ap (λ x. x ++ d ∷ []) f) ∙ ap (λ q. printing_at q format standard_output d) (sym place)

good_at : (n : ℕ) (p : Place) (f o : Name) (d : Item) → f.0 < n → o.0 < n → WellFormed n d → WellFormed n (printing_at p f o d)
unfolding Formed NamesBelow
good_at n p f o d h k g = record {
  formed = (λ e. absurd (cc), (tt, ((λ e. absurd (cc), (tt, tt), tt), (tt, (g.formed, tt)))), tt);
  named = ((h, (((k, tt), tt), (tt, (g.named, tt)))), tt);
}

pub good_printing : (names : List (List ℕ)) (d e : Item) → WellFormed (length names) d → IsPrinting names d e → WellFormed (length names) e
good_printing names d e g p =
    subst (WellFormed (length names)) (sym p.is)
    (good_at (length names) (place_of d) p.format p.standard_output d
    (below_length names p.format.0 _ p.is_format) (below_length names p.standard_output.0 _ p.is_standard_output) g)
