-- Models: a larger set is one too, it is decided whether a set is one, and inside each there is a minimal one.
use Rattle.std.proofs.Common.{◌≡◌, ℕ, zero, suc, ◌<◌, true, not, ◌&&◌, eqb, ◌⊎◌, sym, refl, subst, inl, inr, arith}
use Rattle.std.proofs.lemmas.Bool.{cases_eq, cases_Bool, and_parts, and_from, both_ways, ne_eqb, eqb-false, not-true, not_from_false}
use Rattle.parity.proofs.Below.{one_more}
use Rattle.draft.specs.declared.parts.Node.{Node}
use Rattle.draft.specs.declared.parts.Node.TheVariants.{Leaf, Either, Both}
use Rattle.draft.specs.Automaton.{Automaton, state_count, node_count, node_of}
use Rattle.draft.specs.WellFormed.{Fits}
use Rattle.runs.specs.Models.{States, In, ◌⊆◌, Model, by_leaf, by_left, by_right, by_both, Minimal}

-- a set without one state
pub minus : States → ℕ → States
minus M q p = not (eqb p q) && M p

pub minus_sub : (M : States) (q : ℕ) → minus M q ⊆ M
unfolding minus
minus_sub M q p h = (and_parts _ _ h).1

minus_mono : (M N : States) (q : ℕ) → M ⊆ N → minus M q ⊆ minus N q
unfolding minus
minus_mono M N q s p h = (let k = and_parts (not (eqb p q)) (M p) h in and_from _ _ k.0 (s p k.1))

pub minus_not : (M : States) (q : ℕ) → minus M q q ≡ true → ⊥
unfolding minus
minus_not M q h = eqb-false q q (not-true _ (and_parts (not (eqb q q)) (M q) h).0) refl

pub minus_from : (M : States) (q p : ℕ) → (p ≡ q → ⊥) → M p ≡ true → minus M q p ≡ true
unfolding minus
minus_from M q p n h = and_from _ _ (not_from_false _ (ne_eqb p q n)) h

module _ (a : Automaton) where
  pub grows : (M N : ℕ → Type 0) → ((q : ℕ) → M q → N q) → (x : ℕ) → Model a M x → Model a N x
  grows M N s x (by_leaf e h) = by_leaf e (s _ h)
  grows M N s x (by_left e h) = by_left e (grows M N s _ h)
  grows M N s x (by_right e h) = by_right e (grows M N s _ h)
  grows M N s x (by_both e h h') = by_both e (grows M N s _ h) (grows M N s _ h')

  -- a model has finitely many leaves: q is among them, or can be left out of any set that has all others
  pub without : (N M : ℕ → Type 0) (q : ℕ) → ((p : ℕ) → N p → (p ≡ q → ⊥) → M p) → (x : ℕ) → Model a N x → N q ⊎ Model a M x
  without N M q s x (by_leaf {q = p} e h) = elim (cases_eq p q) [ inl same ↦ inl (subst N same h) | inr n ↦ inr (by_leaf e (s p h n)) ]
  without N M q s x (by_left e h) = elim (without N M q s _ h) [ inl k ↦ inl k | inr k ↦ inr (by_left e k) ]
  without N M q s x (by_right e h) = elim (without N M q s _ h) [ inl k ↦ inl k | inr k ↦ inr (by_right e k) ]
  without N M q s x (by_both e h h') = elim (without N M q s _ h) [ inl k ↦ inl k | inr k ↦ elim (without N M q s _ h') [ inl k' ↦ inl k' | inr k' ↦ inr (by_both e k k') ] ]

  -- what a node of each kind wants of a model
  abbrev Parts : States → Node → Type 0
  Parts M (Leaf q) = M q ≡ true
  Parts M (Either l r) = Model a (In M) l ⊎ Model a (In M) r
  Parts M (Both l r) = Model a (In M) l × Model a (In M) r

  parts : (M : States) (x : ℕ) → Model a (In M) x → Parts M (node_of a x)
  parts M x (by_leaf e h) = subst (Parts M) (sym e) h
  parts M x (by_left e h) = subst (Parts M) (sym e) (inl h)
  parts M x (by_right e h) = subst (Parts M) (sym e) (inr h)
  parts M x (by_both e h h') = subst (Parts M) (sym e) (h, h')

  whole : (M : States) (x : ℕ) (n : Node) → node_of a x ≡ n → Parts M n → Model a (In M) x
  whole M x (Leaf q) e h = by_leaf e h
  whole M x (Either l r) e (inl h) = by_left e h
  whole M x (Either l r) e (inr h) = by_right e h
  whole M x (Both l r) e (h, h') = by_both e h h'

  module _ (named : (x : ℕ) → x < node_count a → Fits (state_count a) x (node_of a x)) where
    abbrev Decided : Type 0 → Type 0
    Decided P = P ⊎ (P → ⊥)

    parts_decided : (M : States) (x : ℕ) (n : Node) → Fits (state_count a) x n → ((y : ℕ) → y < x → Decided (Model a (In M) y)) → Decided (Parts M n)
    parts_decided M x (Leaf q) _ rec = elim (cases_Bool (M q)) [ inl e ↦ inl e | inr e ↦ inr (both_ways (M q) e) ]
    parts_decided M x (Either l r) (l<, r<) rec =
        elim (rec l l<) [ inl h ↦ inl (inl h) | inr none ↦ elim (rec r r<) [ inl b ↦ inl (inr b) | inr b ↦ inr (λ s. elim s [ inl h ↦ none h | inr h ↦ b h ]) ] ]
    parts_decided M x (Both l r) (l<, r<) rec =
        elim (rec l l<) [ inr none ↦ inr (λ s. none s.0) | inl h ↦ elim (rec r r<) [ inl b ↦ inl (h, b) | inr b ↦ inr (λ s. b s.1) ] ]

    decide : (M : States) (f x : ℕ) → x < f → x < node_count a → Decided (Model a (In M) x)
    decide M zero x l x< = absurd (omega arith)
    decide M (suc f) x l x< =
        elim (parts_decided M x (node_of a x) (named x x<) (λ y y<. decide M f y (omega arith) (omega arith)))
        [ inl h ↦ inl (whole M x (node_of a x) refl h) | inr n ↦ inr (λ h. n (parts M x h)) ]

    module _ (x : ℕ) (x< : x < node_count a) (M : States) (h : Model a (In M) x) where
      -- without q, N is no model
      abbrev Needed : States → ℕ → Type 0
      Needed N q = N q ≡ true → Model a (In (minus N q)) x → ⊥

      -- a model inside M from which no state below k can be left out
      abbrev Shrunk : ℕ → Type 0
      Shrunk k = (N : States) × (N ⊆ M) × Model a (In N) x × ((q : ℕ) → q < k → Needed N q)

      shrink : (k : ℕ) → Shrunk k
      shrink zero = (M, (λ p e. e), h, λ q l. absurd (omega arith))
      shrink (suc k) =
          let (N, sub, model, least) = shrink k in
          elim (decide (minus N k) (suc x) x (omega arith) x<) [
            | inl fits ↦ (
              minus N k,
              (λ p e. sub p (minus_sub N k p e)),
              fits,
              one_more (Needed (minus N k)) k
                  (λ q less e fit. least q less (minus_sub N k q e) (grows (In (minus (minus N k) q)) (In (minus N q)) (minus_mono (minus N k) N q (minus_sub N k)) x fit))
                  (λ e _. minus_not N k e),
            )
            | inr misses ↦ (N, sub, model, one_more (Needed N) k least (λ _. misses))
          ]

      -- a minimal model inside a model of states below b
      pub minimal_inside : (b : ℕ) → ((q : ℕ) → M q ≡ true → q < b) → (N : States) × (N ⊆ M) × Minimal a N x
      minimal_inside b below =
          let s = shrink b in (
            s.0,
            s.1,
            record { model = s.2; least = λ N sub fit q e. elim (without (In N) (In (minus s.0 q)) q (λ p h n. minus_from s.0 q p n (sub p h)) x fit) [ inl t ↦ t | inr rest ↦ absurd (s.3 q (below q (s.1 q e)) e rest) ] },
          )
