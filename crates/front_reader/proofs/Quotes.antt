-- What stands between quotes, by the grammar and by the bridge.
use Rattle.std.proofs.Common.{◌≡◌, ℕ, ◌+◌, ◌-◌, true, false, ◌==◌, List, [], ◌∷◌, ◌++◌, length, take, refl, ap, ◌∙◌, arith, ⊎_elim, length-append}
use Rattle.std.proofs.Math.Seq.{take-append_seam}
use Rattle.std.proofs.lemmas.Bool.{eqb-true, eq-eqb}
use Rattle.front_reader.specs.declared.quoted.Quoted.TheVariants.{Closed, Unclosed, Bad}
use Rattle.front_reader.specs.Atoms.{may_stand, Inside, nothing, plain, escaped}
use Rattle.front_reader.specs.bridge.Lexemes.{quoted_from, unescaped, between_quotes}
use Rattle.front_reader.proofs.Skips.{chosen}

-- ---- from the grammar to the bridge

-- a quote that is no backslash closes what is inside
pub inside-closed : (quote : ℕ) (bs content rest : List ℕ) (i : ℕ) → (92 == quote) ≡ false → Inside quote bs content → quoted_from quote false i (bs ++ quote ∷ rest) ≡ Closed (i + length bs)
unfolding quoted_from
inside-closed quote _ _ rest i n nothing = rw (eq-eqb quote quote refl) (ap Closed (omega arith))
inside-closed quote _ _ rest i n (plain b bs content q e m s) =
    rw (q, e, m) (inside-closed quote bs content rest (i + 1) n s ∙ ap Closed (omega arith))
inside-closed quote _ _ rest i n (escaped b bs content m s) =
    rw (n, m) (inside-closed quote bs content rest (i + 1 + 1) n s ∙ ap Closed (omega arith))

-- what is inside stands for its content
pub inside-unescaped : (quote : ℕ) (bs content : List ℕ) → Inside quote bs content → unescaped false bs ≡ content
unfolding unescaped
inside-unescaped quote _ _ nothing = refl
inside-unescaped quote _ _ (plain b bs content q e m s) = rw e (ap (λ x. b ∷ x) (inside-unescaped quote bs content s))
inside-unescaped quote _ _ (escaped b bs content m s) = ap (λ x. b ∷ x) (inside-unescaped quote bs content s)

-- between the quotes of a whole spelling
pub between-inside : (quote : ℕ) (bs content : List ℕ) → Inside quote bs content → between_quotes (quote ∷ (bs ++ quote ∷ [])) ≡ content
between-inside quote bs content s =
    let n : length (quote ∷ (bs ++ quote ∷ [])) - 2 ≡ length bs = omega (arith, length-append bs (quote ∷ [])) in
    ap (λ k. unescaped false (take k (bs ++ quote ∷ []))) n
    ∙ ap (unescaped false) (take-append_seam bs (quote ∷ []))
    ∙ inside-unescaped quote bs content s

-- ---- from the bridge to the grammar

-- the quote stands behind what is inside
pub record IsClosed (quote i : ℕ) (bs : List ℕ) (k : ℕ) : Type 0 where
  pub inside : List ℕ
  pub content : List ℕ
  pub rest : List ℕ
  pub front : bs ≡ inside ++ quote ∷ rest
  pub count : k ≡ i + length inside
  pub is_inside : Inside quote inside content

-- no quote comes, perhaps behind a last backslash
pub data IsUnclosed (quote : ℕ) (bs : List ℕ) : Type 0 where
  all_inside : (content : List ℕ) → Inside quote bs content → IsUnclosed quote bs
  ends_escaped : (inside content : List ℕ) → bs ≡ inside ++ 92 ∷ [] → Inside quote inside content → IsUnclosed quote bs

-- a byte that may not stand there, perhaps behind a backslash
pub data IsBad (quote i : ℕ) (bs : List ℕ) (k : ℕ) : Type 0 where
  bad_plain : (inside content : List ℕ) (b : ℕ) (more : List ℕ) → bs ≡ inside ++ b ∷ more → k ≡ i + length inside
      → may_stand quote b ≡ false → Inside quote inside content → IsBad quote i bs k
  bad_escaped : (inside content : List ℕ) (b : ℕ) (more : List ℕ) → bs ≡ inside ++ 92 ∷ b ∷ more → k ≡ i + length inside + 1
      → may_stand quote b ≡ false → Inside quote inside content → IsBad quote i bs k

-- a byte more, and a byte more behind a backslash
closed_plain : (quote i b : ℕ) (bs : List ℕ) (k : ℕ) → (b == quote) ≡ false → (b == 92) ≡ false → may_stand quote b ≡ true → IsClosed quote (i + 1) bs k → IsClosed quote i (b ∷ bs) k
closed_plain quote i b bs k x y z s = record {
  inside = b ∷ s.inside;
  content = b ∷ s.content;
  rest = s.rest;
  front = ap (λ l. b ∷ l) s.front;
  count = s.count ∙ omega arith;
  is_inside = plain b s.inside s.content x y z s.is_inside;
}

closed_escaped : (quote i b : ℕ) (bs : List ℕ) (k : ℕ) → may_stand quote b ≡ true → IsClosed quote (i + 1 + 1) bs k → IsClosed quote i (92 ∷ b ∷ bs) k
closed_escaped quote i b bs k z s = record {
  inside = 92 ∷ b ∷ s.inside;
  content = b ∷ s.content;
  rest = s.rest;
  front = ap (λ l. 92 ∷ b ∷ l) s.front;
  count = s.count ∙ omega arith;
  is_inside = escaped b s.inside s.content z s.is_inside;
}

closed_now : (quote i b : ℕ) (bs : List ℕ) (k : ℕ) → (b == quote) ≡ true → i ≡ k → IsClosed quote i (b ∷ bs) k
closed_now quote i b bs k x e = record {
  inside = [];
  content = [];
  rest = bs;
  front = ap (λ c. c ∷ bs) (eqb-true b quote x);
  count = omega (arith, e);
  is_inside = nothing;
}

mutual
  unfolding quoted_from

  pub quoted-closed : (quote : ℕ) (bs : List ℕ) (i k : ℕ) → quoted_from quote false i bs ≡ Closed k → IsClosed quote i bs k
  quoted-closed quote [] i k e = absurd (cc)
  quoted-closed quote (b ∷ bs) i k e =
      ⊎_elim
      (λ x. closed_now quote i b bs k x.0 (let same : i ≡ k = cc in same))
      (λ x.
      ⊎_elim
      (λ y. let same : b ≡ 92 = eqb-true b 92 y.0 in rw same (backslash-closed quote bs i k y.1))
      (λ y.
      ⊎_elim
      (λ z. closed_plain quote i b bs k x.0 y.0 z.0 (quoted-closed quote bs (i + 1) k z.1))
      (λ z. absurd (cc))
      (chosen (may_stand quote b) (quoted_from quote false (i + 1) bs) (Bad i) (Closed k) y.1))
      (chosen (b == 92) (quoted_from quote true (i + 1) bs) _ (Closed k) x.1))
      (chosen (b == quote) (Closed i) _ (Closed k) e)

  backslash-closed : (quote : ℕ) (bs : List ℕ) (i k : ℕ) → quoted_from quote true (i + 1) bs ≡ Closed k → IsClosed quote i (92 ∷ bs) k
  backslash-closed quote [] i k e = absurd (cc)
  backslash-closed quote (b ∷ bs) i k e =
      ⊎_elim
      (λ z. closed_escaped quote i b bs k z.0 (quoted-closed quote bs (i + 1 + 1) k z.1))
      (λ z. absurd (cc))
      (chosen (may_stand quote b) (quoted_from quote false (i + 1 + 1) bs) (Bad (i + 1)) (Closed k) e)

unclosed_plain : (quote b : ℕ) (bs : List ℕ) → (b == quote) ≡ false → (b == 92) ≡ false → may_stand quote b ≡ true → IsUnclosed quote bs → IsUnclosed quote (b ∷ bs)
unclosed_plain quote b bs x y z (all_inside content s) = all_inside (b ∷ content) (plain b bs content x y z s)
unclosed_plain quote b bs x y z (ends_escaped inside content f s) =
    ends_escaped (b ∷ inside) (b ∷ content) (ap (λ l. b ∷ l) f) (plain b inside content x y z s)

unclosed_escaped : (quote b : ℕ) (bs : List ℕ) → may_stand quote b ≡ true → IsUnclosed quote bs → IsUnclosed quote (92 ∷ b ∷ bs)
unclosed_escaped quote b bs z (all_inside content s) = all_inside (b ∷ content) (escaped b bs content z s)
unclosed_escaped quote b bs z (ends_escaped inside content f s) =
    ends_escaped (92 ∷ b ∷ inside) (b ∷ content) (ap (λ l. 92 ∷ b ∷ l) f) (escaped b inside content z s)

mutual
  unfolding quoted_from

  pub quoted-unclosed : (quote : ℕ) (bs : List ℕ) (i : ℕ) → quoted_from quote false i bs ≡ Unclosed → IsUnclosed quote bs
  quoted-unclosed quote [] i e = all_inside [] nothing
  quoted-unclosed quote (b ∷ bs) i e =
      ⊎_elim
      (λ x. absurd (cc))
      (λ x.
      ⊎_elim
      (λ y. let same : b ≡ 92 = eqb-true b 92 y.0 in rw same (backslash-unclosed quote bs i y.1))
      (λ y.
      ⊎_elim
      (λ z. unclosed_plain quote b bs x.0 y.0 z.0 (quoted-unclosed quote bs (i + 1) z.1))
      (λ z. absurd (cc))
      (chosen (may_stand quote b) (quoted_from quote false (i + 1) bs) (Bad i) Unclosed y.1))
      (chosen (b == 92) (quoted_from quote true (i + 1) bs) _ Unclosed x.1))
      (chosen (b == quote) (Closed i) _ Unclosed e)

  backslash-unclosed : (quote : ℕ) (bs : List ℕ) (i : ℕ) → quoted_from quote true (i + 1) bs ≡ Unclosed → IsUnclosed quote (92 ∷ bs)
  backslash-unclosed quote [] i e = ends_escaped [] [] refl nothing
  backslash-unclosed quote (b ∷ bs) i e =
      ⊎_elim
      (λ z. unclosed_escaped quote b bs z.0 (quoted-unclosed quote bs (i + 1 + 1) z.1))
      (λ z. absurd (cc))
      (chosen (may_stand quote b) (quoted_from quote false (i + 1 + 1) bs) (Bad (i + 1)) Unclosed e)

badly_plain : (quote i b : ℕ) (bs : List ℕ) (k : ℕ) → (b == quote) ≡ false → (b == 92) ≡ false → may_stand quote b ≡ true → IsBad quote (i + 1) bs k → IsBad quote i (b ∷ bs) k
badly_plain quote i b bs k x y z (bad_plain inside content c more f n m s) =
    bad_plain (b ∷ inside) (b ∷ content) c more (ap (λ l. b ∷ l) f) (omega (arith, n)) m (plain b inside content x y z s)
badly_plain quote i b bs k x y z (bad_escaped inside content c more f n m s) =
    bad_escaped (b ∷ inside) (b ∷ content) c more (ap (λ l. b ∷ l) f) (omega (arith, n)) m (plain b inside content x y z s)

badly_escaped : (quote i b : ℕ) (bs : List ℕ) (k : ℕ) → may_stand quote b ≡ true → IsBad quote (i + 1 + 1) bs k → IsBad quote i (92 ∷ b ∷ bs) k
badly_escaped quote i b bs k z (bad_plain inside content c more f n m s) =
    bad_plain (92 ∷ b ∷ inside) (b ∷ content) c more (ap (λ l. 92 ∷ b ∷ l) f) (omega (arith, n)) m (escaped b inside content z s)
badly_escaped quote i b bs k z (bad_escaped inside content c more f n m s) =
    bad_escaped (92 ∷ b ∷ inside) (b ∷ content) c more (ap (λ l. 92 ∷ b ∷ l) f) (omega (arith, n)) m (escaped b inside content z s)

mutual
  unfolding quoted_from

  pub quoted-bad : (quote : ℕ) (bs : List ℕ) (i k : ℕ) → quoted_from quote false i bs ≡ Bad k → IsBad quote i bs k
  quoted-bad quote [] i k e = absurd (cc)
  quoted-bad quote (b ∷ bs) i k e =
      ⊎_elim
      (λ x. absurd (cc))
      (λ x.
      ⊎_elim
      (λ y. let same : b ≡ 92 = eqb-true b 92 y.0 in rw same (backslash-bad quote bs i k y.1))
      (λ y.
      ⊎_elim
      (λ z. badly_plain quote i b bs k x.0 y.0 z.0 (quoted-bad quote bs (i + 1) k z.1))
      (λ z. let same : i ≡ k = cc in bad_plain [] [] b bs refl (omega (arith, same)) z.0 nothing)
      (chosen (may_stand quote b) (quoted_from quote false (i + 1) bs) (Bad i) (Bad k) y.1))
      (chosen (b == 92) (quoted_from quote true (i + 1) bs) _ (Bad k) x.1))
      (chosen (b == quote) (Closed i) _ (Bad k) e)

  backslash-bad : (quote : ℕ) (bs : List ℕ) (i k : ℕ) → quoted_from quote true (i + 1) bs ≡ Bad k → IsBad quote i (92 ∷ bs) k
  backslash-bad quote [] i k e = absurd (cc)
  backslash-bad quote (b ∷ bs) i k e =
      ⊎_elim
      (λ z. badly_escaped quote i b bs k z.0 (quoted-bad quote bs (i + 1 + 1) k z.1))
      (λ z. let same : i + 1 ≡ k = cc in bad_escaped [] [] b bs refl (omega (arith, same)) z.0 nothing)
      (chosen (may_stand quote b) (quoted_from quote false (i + 1 + 1) bs) (Bad (i + 1)) (Bad k) e)
