-- The number of a text in a table is its name's, and stays so.
use Rattle.std.proofs.Common.{◌≡◌, ℕ, zero, suc, Bool, true, false, List, [], ◌∷◌, Some, slice_get, refl, sym, ap, ◌∙◌}
use Rattle.std.specs.Prelude.{codes}
use Rattle.std.specs.Str.{bytes_eq}
use Rattle.std.proofs.lemmas.Slice.Eq.{bytes_eq-Decides}
use Rattle.base.specs.declared.place.Place.{Place}
use Rattle.base.specs.declared.datum.Name.{Name}
use Rattle.base.specs.declared.datum.Symbol.TheVariants.{Named}
use Rattle.front_reader.specs.declared.opening.Opening.{Opening}
use Rattle.front_reader.specs.declared.opening.Opening.TheVariants.{Before}
use Rattle.front_reader.specs.declared.opening.Prefix.{Prefix}
use Rattle.front_reader.specs.declared.pending.Pending.TheVariants.{AtPrefix}
use Rattle.front_reader.specs.bridge.Machine.{LexemeState, next, opened, prefix_step}
use Rattle.base.specs.Data.{symbol}
use Rattle.base.specs.Names.{Extends-then, text_stays}
use Rattle.front_reader.specs.Atoms.{a_symbol}
use Rattle.front_reader.specs.Meanings.{number_in, atom_content, prefix_name}
use Rattle.front_reader.specs.bridge.Turns.{IsLater}

record NumberFound (ts : List (List ℕ)) (t : List ℕ) : Type 0 where
  pub at : ℕ
  pub number : number_in ts t ≡ Some at
  pub there : slice_get ts at ≡ Some t

found : (ts : List (List ℕ)) (n : ℕ) (t : List ℕ) → slice_get ts n ≡ Some t → NumberFound ts t
unfolding number_in
found [] n t h = absurd (cc)
found (s ∷ ts) n t h = by (bytes_eq t s) refl n h (λ (m : ℕ) (k : slice_get ts m ≡ Some t). found ts m t k)
  where
    by : (b : Bool) → bytes_eq t s ≡ b → (n : ℕ) → slice_get (s ∷ ts) n ≡ Some t
        → ((m : ℕ) → slice_get ts m ≡ Some t → NumberFound ts t) → NumberFound (s ∷ ts) t
    by true e n h more = record { at = 0; number = rw e refl; there = ap Some (sym ((bytes_eq-Decides t s).0 e)) }
    by false e zero h more =
        let same : t ≡ s = cc in
        let other : bytes_eq t s ≡ true = (bytes_eq-Decides t s).1 same in absurd (cc)
    by false e (suc m) h more =
        let f = more m h in
        record { at = suc f.at; number = rw (e, f.number) refl; there = f.there }

-- a name's text has its number in each later table
pub number-later : (names table : List (List ℕ)) (n : ℕ) (t : List ℕ) → IsLater names table → slice_get names n ≡ Some t
    → number_in table t ≡ Some n
number-later names table n t l h =
    let there : slice_get table n ≡ Some t = text_stays names table n t l.extends h in
    let f = found table n t there in
    f.number ∙ ap Some (l.is_table.once f.at n t f.there there)

-- the symbol of a name
pub symbol-later : (names table : List (List ℕ)) (n : ℕ) (t : List ℕ) → IsLater names table → slice_get names n ≡ Some t
    → bytes_eq t (codes "nil") ≡ false
    → atom_content (number_in table) (a_symbol t) ≡ Some (symbol (Named (record { 0 = n })))
symbol-later names table n t l h e = rw (e, number-later names table n t l h) refl

pub later-then : (a b c : List (List ℕ)) → IsLater a b → IsLater b c → IsLater a c
later-then a b c x y = record { is_table = y.is_table; extends = Extends-then a b c x.extends y.extends }

-- a prefix begins its open datum
pub begins-prefix : (names table : List (List ℕ)) (s : LexemeState) (p : Place) (o : Opening) (x : Prefix) (text : List ℕ) (n : Name)
    → IsLater names table → o ≡ Before x → text ≡ prefix_name x → slice_get names n.0 ≡ Some text
    → opened (number_in table) s p o ≡ next (record s { pending = AtPrefix p n ∷ s.pending })
begins-prefix names table s p o x text n l e f h =
    ap (opened (number_in table) s p) e
    ∙ ap (prefix_step s p) (number-later names table n.0 (prefix_name x) l (h ∙ ap Some f))
