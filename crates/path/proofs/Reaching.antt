-- What can be reached from a place of a text: a path, and what follows a name, by the byte that stands there.
use Prim.Native.Nat.{ℕ, ◌+◌, ◌≤◌}
use native.Mathlib.Omega.{arith}
use mathlib.Core.Path.{◌≡◌, refl, sym, ap, ◌∙◌, subst}
use mathlib.Core.List.{List, ◌∷◌, ◌++◌}
use lib.ListN.{drop}
use Rattle.std.specs.Prelude.{Option, Some}
use Rattle.meaning.specs.Notation.{Path, path, After, finish, bracket, next, write, write_after, Named, NamedAfter, depth, last_step}
use Rattle.meaning.specs.Ends.{Stops}
use Rattle.meaning.proofs.Laws.Name.{name_same}
use Rattle.meaning.proofs.Laws.Notation.{after_no_further, same_path}
use Rattle.draft.specs.declared.Draft.{Draft}
use Rattle.draft.specs.Drafts.{moved, grown, stepped}
use Rattle.draft.specs.Steps.{FoundStep, NoStep, ShutAt}
use Rattle.path.specs.Stored.{size, stored}
use Rattle.path.specs.Reach.{followed, walked, Reach, ReachPath}
use Rattle.path.proofs.Sizes.{cut_byte, cut_path}
use Rattle.path.proofs.Growths.{grown_none, step_then, bracket_then}

-- The text t.
module _ (t : List ℕ) where
  -- A path ends at one place only: two drafts that are reached by a path are equal.
  pub one_path : {hang : Option ℕ} {d : ℕ} {q x y : Draft} → ReachPath t hang d q x → ReachPath t hang d q y → x ≡ y
  one_path {hang} {d} {q} {x} {y} r s =
      let e = (same_path r.tree s.tree (drop x.at t) (drop y.at t) r.named s.named r.halts s.halts (sym r.text ∙ s.text)).0 in
      r.gives ∙ ap (walked q hang d) e ∙ sym s.gives

  -- Where a path can end nothing need follow.
  pub at_end : {d : ℕ} {q : Draft} → d ≤ q.deepest → Stops (drop q.at t) → Reach t d q q
  unfolding write stored depth last_step
  at_end {d} {q} h s = record { follow = finish; named = tt; text = refl; halts = s; gives = grown_none q d h }

  -- A path may follow: its first step is the next step.
  pub from_next : {d : ℕ} {q x : Draft} → ReachPath t (Some q.last) d q x → Reach t d q x
  unfolding write stored depth last_step
  from_next r = record { follow = next r.tree; named = r.named; text = r.text; halts = r.halts; gives = r.gives }

  -- Where no path can end and no bracket begins, only a path follows.
  pub to_next : {d : ℕ} {q x : Draft} → (Stops (drop q.at t) → ⊥) → ((s : List ℕ) → drop q.at t ≡ 91 ∷ s → ⊥) → Reach t d q x → ReachPath t (Some q.last) d q x
  unfolding write stored depth last_step
  to_next {d} {q} {x} no_stop no-bracket r = go r.follow r.named r.text r.gives
    where
      go : (a : After) → NamedAfter a → drop q.at t ≡ write_after a (drop x.at t) → x ≡ followed q d a → ReachPath t (Some q.last) d q x
      go finish n e w = absurd (no_stop (subst Stops (sym e) r.halts))
      go (bracket p a) n e w = absurd (no-bracket _ e)
      go (next p) n e w = record { tree = p; named = n; text = e; halts = r.halts; gives = w }

  -- A bracket and what follows it: the draft behind the path in the bracket, behind which a `]` stands.
  pub record BracketHere (d : ℕ) (q x : Draft) : Type 0 where
    pub inner : Draft
    pub walk : ReachPath t (Some q.last) (d + 1) (moved q (q.at + 1) q.last) inner
    pub close : ShutAt t inner.at
    pub rest : Reach t d (moved inner (inner.at + 1) q.last) x

  -- A bracket may follow.
  pub from_bracket : {d : ℕ} {q x : Draft} → drop q.at t ≡ 91 ∷ drop (q.at + 1) t → BracketHere d q x → Reach t d q x
  unfolding write moved
  from_bracket {d} {q} {x} e b =
      let p = b.walk in
      let r = b.rest in
      record {
        follow = bracket p.tree r.follow;
        named = (p.named, r.named);
        text = e ∙ ap (λ (l : List ℕ). 91 ∷ l) (p.text ∙ ap (write p.tree) (b.close ∙ ap (λ (l : List ℕ). 93 ∷ l) r.text));
        halts = r.halts;
        gives = r.gives ∙ bracket_then q b.inner d p.tree r.follow p.gives;
      }

  -- Where a bracket begins, only a bracket follows.
  pub to_bracket : {d : ℕ} {q x : Draft} {s : List ℕ} → drop q.at t ≡ 91 ∷ s → Reach t d q x → BracketHere d q x
  unfolding write moved grown
  to_bracket {d} {q} {x} {s} b r = go r.follow r.named r.text r.gives
    where
      go : (a : After) → NamedAfter a → drop q.at t ≡ write_after a (drop x.at t) → x ≡ followed q d a → BracketHere d q x
      go finish n e w = let z : ◌≡◌ {A = ℕ} 91 93 = subst Stops (sym e ∙ b) r.halts in absurd (omega arith)
      go (next (path m a)) n e w = let z : ◌≡◌ {A = ℕ} 47 91 = cc in absurd (omega arith)
      go (bracket p a) n e w =
          let q₁ : Draft = moved q (q.at + 1) q.last in
          let i : Draft = walked q₁ (Some q.last) (d + 1) p in
          let tail : List ℕ = 93 ∷ write_after a (drop x.at t) in
          let inside : drop (q.at + 1) t ≡ write p tail = cut_byte t q.at e in
          let behind : drop (q.at + 1 + size p) t ≡ tail = cut_path t (q.at + 1) p tail inside in
          let further : drop (q.at + 1 + size p + 1) t ≡ write_after a (drop x.at t) = cut_byte t (q.at + 1 + size p) behind in
          record {
            inner = i;
            walk = record { tree = p; named = n.0; text = inside ∙ ap (write p) (sym behind); halts = subst Stops (sym behind) refl; gives = refl };
            close = behind ∙ ap (λ (l : List ℕ). 93 ∷ l) (sym further);
            rest = record { follow = a; named = n.1; text = further; halts = r.halts; gives = w ∙ sym (bracket_then q i d p a refl) };
          }

  -- A step and what follows its name are a path.
  pub shut_path : {hang : Option ℕ} {d : ℕ} {q r x : Draft} (f : FoundStep t q.at r.at) → r ≡ stepped q hang d f.name → Reach t d r x → ReachPath t hang d q x
  unfolding write
  shut_path {hang} {d} {q} {r} {x} f w y = record {
    tree = path f.name y.follow;
    named = (f.proper, y.named);
    text = f.text ∙ ap (λ (l : List ℕ). 47 ∷ 47 ∷ f.name ++ l) y.text;
    halts = y.halts;
    gives = y.gives ∙ ap (λ (v : Draft). followed v d y.follow) w ∙ step_then q hang d f.name y.follow;
  }

  -- Where a step stands, a path is this step and what follows its name.
  pub open_path : {hang : Option ℕ} {d : ℕ} {q r x : Draft} (f : FoundStep t q.at r.at) → r ≡ stepped q hang d f.name → ReachPath t hang d q x → Reach t d r x
  unfolding write
  open_path {hang} {d} {q} {r} {x} f w y = go y.tree y.named y.text y.gives
    where
      go : (p : Path) → Named p → drop q.at t ≡ write p (drop x.at t) → x ≡ walked q hang d p → Reach t d r x
      go (path m a) n e v =
          let same = name_same m f.name (write_after a (drop x.at t)) (drop r.at t) n.0 f.proper (after_no_further a (drop x.at t) y.halts) f.halts (ap (drop 2) (sym e ∙ f.text)) in
          record {
            follow = a;
            named = n.1;
            text = sym same.1;
            halts = y.halts;
            gives = v ∙ ap (λ (l : List ℕ). walked q hang d (path l a)) same.0 ∙ sym (step_then q hang d f.name a) ∙ ap (λ (u : Draft). followed u d a) (sym w);
          }

  -- Where no step stands, no path does.
  pub no_path : {hang : Option ℕ} {d : ℕ} {q x : Draft} → NoStep t q.at → ReachPath t hang d q x → ⊥
  unfolding write
  no_path {hang} {d} {q} {x} none y = go y.tree y.named y.text
    where
      go : (p : Path) → Named p → drop q.at t ≡ write p (drop x.at t) → ⊥
      go (path m a) n e = none m (write_after a (drop x.at t)) n.0 (after_no_further a (drop x.at t) y.halts) e
