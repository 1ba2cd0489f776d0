-- Procedures that are marked, those of one list after those of another.
use Rattle.std.proofs.Common.{◌≡◌, ℕ, ◌+◌, ◌<◌, ◌≤◌, ◌==◌, Bool, true, false, ◌||◌, List, [], ◌∷◌, ◌++◌, length, drop, map, Some, slice_get, slice_set, slice_index_or, if◌then◌else◌, refl, sym, ◌∙◌, ap, subst, arith}
use Rattle.std.proofs.Math.ListN.{length-set}
use Rattle.std.proofs.lemmas.Bool.{false_from_ne_true}
use Rattle.std.proofs.lemmas.Bool.Decides.{Decides-eqb}
use Rattle.std.proofs.lemmas.List.{drop_all}
use Rattle.std.proofs.lemmas.List.Folds.{list_any-append}
use Rattle.base.specs.model.DataRest.{rest_at}
use Rattle.lang_meaning.specs.Lookup.{is_in}
use Rattle.lang_meaning.specs.declared.program.GenericRow.{GenericRow}
use Rattle.lang_meaning.specs.declared.program.MethodRow.{MethodRow}
use Rattle.lang_rows.specs.Marked.{methods_of, AreFlags, AreMarked}
use Rattle.lang_rows.proofs.Filling.{AreAll, looked_up}

any_of_both : (p : ℕ) (xs ys : List ℕ) → is_in p (ys ++ xs) ≡ (is_in p ys || is_in p xs)
any_of_both p xs ys = list_any-append (λ (m : ℕ). p == m) ys xs

pub flags_marked : (count : ℕ) (xs ys : List ℕ) (flags new : List Bool) → AreFlags count xs flags → AreMarked flags ys new → AreFlags count (ys ++ xs) new
flags_marked count xs ys flags new f m = record {
  size = m.size ∙ f.size;
  each = λ p h. m.each p (omega (arith, h, f.size)) ∙ ap (λ (b : Bool). is_in p ys || b) (f.each p h) ∙ sym (any_of_both p xs ys);
}

pub either_or_rest : (a b c : Bool) → (a || (b || c)) ≡ ((a || b) || c)
either_or_rest true b c = refl
either_or_rest false b c = refl

pub marked_then : (xs ys : List ℕ) (a b c : List Bool) → AreMarked a xs b → AreMarked b ys c → AreMarked a (ys ++ xs) c
marked_then xs ys a b c m n = record {
  size = n.size ∙ m.size;
  each = λ p h.
      n.each p (omega (arith, h, m.size))
      ∙ ap (λ (o : Bool). is_in p ys || o) (m.each p h)
      ∙ either_or_rest (is_in p ys) (is_in p xs) (slice_index_or a p false)
      ∙ ap (λ (o : Bool). o || slice_index_or a p false) (sym (any_of_both p xs ys));
}

pub not_marked : (a b : List Bool) → b ≡ a → AreMarked a [] b
not_marked a b e = rw e (record { size = refl; each = λ p h. refl })

-- a procedure that there is, and one that there is not
either : (b c : Bool) → (if b then true else c) ≡ ((b || false) || c)
either true c = refl
either false c = refl

pub one_marked : (a b : List Bool) (p : ℕ) → p < length a → b ≡ slice_set a p true → AreMarked a (p ∷ []) b
one_marked a b p h e = record {
  size = ap length e ∙ length-set a p true;
  each = λ q k. ap (λ (ys : List Bool). slice_index_or ys q false) e ∙ looked_up a p q true false h ∙ either (q == p) (slice_index_or a q false);
}

pub none_to_mark : (a b : List Bool) (p : ℕ) → length a ≤ p → b ≡ a → AreMarked a (p ∷ []) b
none_to_mark a b p h e = record {
  size = ap length e;
  each = λ q k.
      let other : (q == p) ≡ false = false_from_ne_true (q == p) (λ s. let same : q ≡ p = (Decides-eqb q p).0 s in omega (arith, same, h, k)) in
      rw (other, e) refl;
}

-- from the last to the first

pub no_method_yet : (a : List Bool) (ms : List MethodRow) (at : ℕ) → length ms ≤ at → AreMarked a (map (λ (m : MethodRow). m.procedure) (drop at ms)) a
no_method_yet a ms at h = rw (drop_all at ms h) (not_marked a a refl)

pub method_marked : (ms : List MethodRow) (at k : ℕ) (m : MethodRow) (a b c : List Bool) → at ≡ k + 1 → slice_get ms k ≡ Some m
    → AreMarked a (map (λ (m : MethodRow). m.procedure) (drop at ms)) b → AreMarked b (m.procedure ∷ []) c
    → AreMarked a (map (λ (m : MethodRow). m.procedure) (drop k ms)) c
method_marked ms at k m a b c e h f g =
    let others : List ℕ = map (λ (m : MethodRow). m.procedure) (drop (k + 1) ms) in
    let so : AreMarked a others b = subst (λ (i : ℕ). AreMarked a (map (λ (m : MethodRow). m.procedure) (drop i ms)) b) e f in
    rw (rest_at ms k m h) (marked_then others (m.procedure ∷ []) a b c so g)

pub no_generic_yet : (count : ℕ) (gs : List GenericRow) (at : ℕ) (flags : List Bool) → length gs ≤ at → AreFlags count [] flags
    → AreFlags count (methods_of (drop at gs)) flags
no_generic_yet count gs at flags h f = rw (drop_all at gs h) f

pub generic_marked : (count : ℕ) (gs : List GenericRow) (at k : ℕ) (g : GenericRow) (flags new : List Bool) → at ≡ k + 1 → slice_get gs k ≡ Some g
    → AreFlags count (methods_of (drop at gs)) flags → AreMarked flags (map (λ (m : MethodRow). m.procedure) g.methods) new
    → AreFlags count (methods_of (drop k gs)) new
generic_marked count gs at k g flags new e h f m =
    let so : AreFlags count (methods_of (drop (k + 1) gs)) flags = subst (λ (i : ℕ). AreFlags count (methods_of (drop i gs)) flags) e f in
    rw (rest_at gs k g h) (flags_marked count (methods_of (drop (k + 1) gs)) (map (λ (m : MethodRow). m.procedure) g.methods) flags new so m)

pub none_set : (count : ℕ) (flags : List Bool) → AreAll false count flags → AreFlags count [] flags
none_set count flags a = record { size = a.size; each = λ p h. a.each p }
