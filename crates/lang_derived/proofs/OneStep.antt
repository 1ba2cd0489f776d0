-- A step is one datum.
use Rattle.std.specs.Prelude.{◌≡◌, ℕ, ◌+◌, List, length}
use Rattle.std.proofs.Common.{ap, ◌∙◌, sym}
use Rattle.base.specs.declared.place.Place.{Place}
use Rattle.base.specs.declared.datum.Symbol.TheVariants.{Named}
use Rattle.base.specs.Names.{IsTable, Extends}
use Rattle.base.specs.Data.{Item, item, symbol, Items, item_and, place_of}
use Rattle.base.specs.DataMeasures.{NamesBelow}
use Rattle.lang_derived.specs.Pieces.{Piece, word, made, taken, parens, Pieces, no_piece, piece_and, Right, in_parens, Builds, BuildsAll}
use Rattle.lang_derived.specs.Derived.{becomes, Derives}
use Rattle.lang_derived.proofs.Building.{builds_later}
use Rattle.lang_derived.proofs.Kept.{derivation_later}

both : (d e : Item) (ds es : Items) → d ≡ e → ds ≡ es → item_and d ds ≡ item_and e es
both d e ds es f g = cc

mutual
  unfolding Builds

  builds_one : (names : List (List ℕ)) → IsTable names → (p : Place) (x : Piece) (d e : Item) → Builds names p x d → Builds names p x e → d ≡ e
  builds_one names t p (word text) d e g h =
      let same : g.0 ≡ h.0 = t.once g.0 h.0 text g.1.0 h.1.0 in
      g.1.1 ∙ ap (λ (n : ℕ). item p (symbol (Named (record { 0 = n })))) same ∙ sym h.1.1
  builds_one names t p (made serial) d e g h = g ∙ sym h
  builds_one names t p (taken f) d e g h = g ∙ sym h
  builds_one names t p (parens xs) d e g h =
      g.1.1 ∙ ap (λ (ds : Items). item p (in_parens ds)) (all_one names t p xs g.0 h.0 g.1.0 h.1.0) ∙ sym h.1.1

  all_one : (names : List (List ℕ)) → IsTable names → (p : Place) (xs : Pieces) (ds es : Items) → BuildsAll names p xs ds → BuildsAll names p xs es → ds ≡ es
  all_one names t p no_piece ds es g h = g ∙ sym h
  all_one names t p (piece_and x xs) ds es g h =
      g.1.1.2
      ∙ both g.0 h.0 g.1.0 h.1.0 (builds_one names t p x g.0 h.0 g.1.1.0 h.1.1.0) (all_one names t p xs g.1.0 h.1.0 g.1.1.1 h.1.1.1)
      ∙ sym h.1.1.2

pub one_step : (names : List (List ℕ)) (d : Item) (s : ℕ) (d2 e2 : Item) (s2 t2 : ℕ) → IsTable names → Derives names d s d2 s2 → Derives names d s e2 t2
    → (d2 ≡ e2) × (s2 ≡ t2)
one_step names d s d2 e2 s2 t2 t x y =
    let rights : becomes x.right ≡ becomes y.right = sym x.fits ∙ y.fits in
    let same : x.right ≡ y.right = cc in
    let P : Right → Type 0 = λ r. Builds names (place_of d) r.piece d2 in (
      builds_one names t (place_of d) y.right.piece d2 e2 (rw (← same) x.builds) y.builds,
      x.serials ∙ ap (λ (r : Right). s + r.count) same ∙ sym y.serials,
    )

pub step_stays : (old new : List (List ℕ)) (d : Item) (s : ℕ) (d2 : Item) (s2 : ℕ) → Extends old new → NamesBelow (length old) d
    → Derives old d s d2 s2 → Derives new d s d2 s2
step_stays old new d s d2 s2 later below x = record {
  right = x.right;
  fits = sym (derivation_later old new s d later below) ∙ x.fits;
  builds = builds_later old new (place_of d) x.right.piece d2 later x.builds;
  serials = x.serials;
}
