-- A text has at most one tree: what a text says does not depend on how it is read.
use Prim.Native.Nat.{ℕ}
use mathlib.Core.Path.{◌≡◌, refl, sym, ap, ◌∙◌, subst}
use mathlib.Core.List.{List, [], ◌∷◌}
use native.Mathlib.Omega.{arith}
use lib.ListN.{get_or, drop}
use Rattle.meaning.specs.Names.{initial, further}
use Rattle.meaning.specs.Notation.{Path, path, After, finish, bracket, next, write, write_after, Named, NamedAfter, Follows}
use Rattle.meaning.specs.Ends.{NoFurther, Stops}
use Rattle.meaning.proofs.Laws.Name.{name_same}

-- Where a path ends, no name goes on.
pub stops_no_further : (r : List ℕ) → Stops r → NoFurther r
unfolding further initial
stops_no_further [] h = tt
stops_no_further (c ∷ r) h = ap further h

-- What follows a name does not go on with a character of a name.
pub after_no_further : (a : After) (r : List ℕ) → Stops r → NoFurther (write_after a r)
unfolding write further initial
after_no_further finish r h = stops_no_further r h
after_no_further (bracket p a) r h = refl
after_no_further (next (path n a)) r h = refl

-- A text that begins a path is not one before which a path ends.
pub path_no_stop : (p : Path) (r s : List ℕ) → Stops s → write p r ≡ s → ⊥
unfolding write
path_no_stop (path n a) r s h e = let z : ◌≡◌ {A = ℕ} 47 93 = subst Stops (sym e) h in omega arith

-- A path does not begin with `[`.
pub path_no_bracket : (p : Path) (r s : List ℕ) → write p r ≡ 91 ∷ s → ⊥
unfolding write
path_no_bracket (path n a) r s e = let z : ◌≡◌ {A = ℕ} 47 91 = ap (λ (l : List ℕ). get_or l 0 0) e in omega arith

-- A text that begins with `[` is not one before which a path ends.
bracket_no_stop : (r s : List ℕ) → Stops r → 91 ∷ s ≡ r → ⊥
bracket_no_stop r s h e = let z : ◌≡◌ {A = ℕ} 91 93 = subst Stops (sym e) h in omega arith

mutual
  unfolding write

  -- Two paths whose texts are equal, each up to where a path can end, are equal, and so is what follows them.
  pub same_path : (p q : Path) (r s : List ℕ) → Named p → Named q → Stops r → Stops s → write p r ≡ write q s → (p ≡ q) × (r ≡ s)
  same_path (path n a) (path m b) r s hp hq hr hs e =
      let ns = name_same n m (write_after a r) (write_after b s) hp.0 hq.0 (after_no_further a r hr) (after_no_further b s hs) (ap (drop 2) e) in
      let x = same_after a b r s hp.1 hq.1 hr hs ns.1 in
      (cc, x.1)

  -- The same of what follows a name.
  pub same_after : (a b : After) (r s : List ℕ) → NamedAfter a → NamedAfter b → Stops r → Stops s → write_after a r ≡ write_after b s → (a ≡ b) × (r ≡ s)
  same_after finish finish r s ha hb hr hs e = (refl, e)
  same_after finish (bracket q b) r s ha hb hr hs e = absurd (bracket_no_stop r _ hr (sym e))
  same_after finish (next q) r s ha hb hr hs e = absurd (path_no_stop q s r hr (sym e))
  same_after (bracket p a) finish r s ha hb hr hs e = absurd (bracket_no_stop s _ hs e)
  same_after (bracket p a) (bracket q b) r s ha hb hr hs e =
      let x = same_path p q (93 ∷ write_after a r) (93 ∷ write_after b s) ha.0 hb.0 refl refl (ap (drop 1) e) in
      let y = same_after a b r s ha.1 hb.1 hr hs (ap (drop 1) x.1) in
      (cc, y.1)
  same_after (bracket p a) (next q) r s ha hb hr hs e = absurd (path_no_bracket q s _ (sym e))
  same_after (next p) finish r s ha hb hr hs e = absurd (path_no_stop p r s hs e)
  same_after (next p) (bracket q b) r s ha hb hr hs e = absurd (path_no_bracket p r _ e)
  same_after (next p) (next q) r s ha hb hr hs e =
      let x = same_path p q r s ha hb hr hs e in
      (cc, x.1)

-- A text has at most one tree.
pub one_tree : {text : List ℕ} (f g : Follows text) → f.tree ≡ g.tree
one_tree f g = (same_path f.tree g.tree [] [] f.named g.named tt tt (f.written ∙ sym g.written)).0
