-- Tests of the members of a list.
use mathlib.Core.Logic.{◌⊎◌, inl, inr, ⊎_elim}
use mathlib.Core.Bool.{Bool, true, false}
use mathlib.Core.List.{List, [], ◌∷◌, ◌++◌}
use Rattle.meaning.specs.Answers.{Decides, holds, fails}
use Rattle.meaning.proofs.Decide.{either_decides}

module _ {A : Type 0} where
  -- Some member of the list has the property.
  abbrev pub Among : (A → Type 0) → List A → Type 0
  Among P [] = ⊥
  Among P (x ∷ xs) = P x ⊎ Among P xs

  -- Some member of the list passes; the first that passes ends the computation.
  unfoldable pub among : (A → Bool) → List A → Bool
  among f [] = false
  among f (x ∷ xs) = elim (f x) [ true ↦ true | false ↦ among f xs ]

  -- Where a test decides a property of each member, the search decides whether some member has it.
  pub among_decides : {P : A → Type 0} {f : A → Bool} → ((x : A) → Decides (P x) (f x)) → (xs : List A) → Decides (Among P xs) (among f xs)
  unfolding among
  among_decides d [] = fails (λ h. h)
  among_decides d (x ∷ xs) = either_decides (d x) (among_decides d xs)

  -- The list has a member.
  abbrev pub member_b : List A → Bool
  member_b [] = false
  member_b (x ∷ xs) = true

  -- That test decides it.
  pub member_decides : (xs : List A) → Decides (Among (λ x. Unit) xs) (member_b xs)
  member_decides [] = fails (λ h. h)
  member_decides (x ∷ xs) = holds (inl tt)

  -- A member of the first of two lists is a member of both joined.
  pub among_left : (P : A → Type 0) (xs ys : List A) → Among P xs → Among P (xs ++ ys)
  among_left P [] ys h = absurd h
  among_left P (x ∷ xs) ys (inl p) = inl p
  among_left P (x ∷ xs) ys (inr h) = inr (among_left P xs ys h)

  -- So is a member of the second.
  pub among_right : (P : A → Type 0) (xs ys : List A) → Among P ys → Among P (xs ++ ys)
  among_right P [] ys h = h
  among_right P (x ∷ xs) ys h = inr (among_right P xs ys h)

  -- A member of two lists joined is a member of the first or of the second.
  pub among_split : (P : A → Type 0) (xs ys : List A) → Among P (xs ++ ys) → Among P xs ⊎ Among P ys
  among_split P [] ys h = inr h
  among_split P (x ∷ xs) ys (inl p) = inl (inl p)
  among_split P (x ∷ xs) ys (inr h) = ⊎_elim (λ l. inl (inr l)) (λ r. inr r) (among_split P xs ys h)

  -- The members that pass.
  unfoldable pub keep : (A → Bool) → List A → List A
  keep f [] = []
  keep f (x ∷ xs) = elim (f x) [ true ↦ x ∷ keep f xs | false ↦ keep f xs ]

  -- Where the test decides P, the members that pass are the members that have P.
  module _ {P : A → Type 0} {f : A → Bool} (d : (x : A) → Decides (P x) (f x)) (Q : A → Type 0) where
    -- A member of those that pass, with Q, is a member with P and Q.
    pub kept : (xs : List A) → Among Q (keep f xs) → Among (λ x. P x × Q x) xs
    unfolding keep
    kept [] h = h
    kept (x ∷ xs) h = go (d x) (keep f xs) (kept xs) h
      where
        go : {b : Bool} {R : Type 0} → Decides (P x) b → (ys : List A) → (Among Q ys → R) → Among Q (elim b [ true ↦ x ∷ ys | false ↦ ys ]) → (P x × Q x) ⊎ R
        go (holds p) ys rest (inl q) = inl (p, q)
        go (holds p) ys rest (inr r) = inr (rest r)
        go (fails n) ys rest r = inr (rest r)

    -- A member with P and Q is a member of those that pass, with Q.
    pub keeps : (xs : List A) → Among (λ x. P x × Q x) xs → Among Q (keep f xs)
    unfolding keep
    keeps [] h = h
    keeps (x ∷ xs) h = go (d x) (keep f xs) (keeps xs) h
      where
        go : {b : Bool} {R : Type 0} → Decides (P x) b → (ys : List A) → (R → Among Q ys) → (P x × Q x) ⊎ R → Among Q (elim b [ true ↦ x ∷ ys | false ↦ ys ])
        go (holds p) ys rest (inl q) = inl q.1
        go (holds p) ys rest (inr r) = inr (rest r)
        go (fails n) ys rest (inl q) = absurd (n q.0)
        go (fails n) ys rest (inr r) = rest r
