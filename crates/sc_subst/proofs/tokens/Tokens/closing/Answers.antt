use Rattle.std.proofs.Common.{◌≡◌, ℕ, [], ◌+◌, ◌-◌, ◌<◌, ◌∙◌, All, List, Some, ap, arith, codes, drop, get_or, length, refl, slice_get, subst, sym, take, true}
use Rattle.std.specs.Prelude.{unwrap_or}
use Rattle.std.proofs.lemmas.List.{length-drop, length-take}
use Rattle.std.proofs.lemmas.Option.{slice_get_read}
use Rattle.sc_base.specs.Seen.{text_at}
use Rattle.sc_model.specs.Bytes.{same_bytes}
use Rattle.sc_subst.specs.Groups.{IsParenthesized}
use Rattle.sc_subst.specs.declared.hidden.Hidden.{Hidden}
use Rattle.sc_subst.specs.declared.tokens.Grouped.{Grouped}
use Rattle.sc_subst.proofs.GroupParts.{closes_behind, parenthesized_within, part_at}
use Rattle.sc_subst.proofs.tokens.Tokens.closing.Goals as goal
use Rattle.sc_subst.proofs.tokens.Tokens.closing.Goals.{Else-not-is_same}

spelled : (names : List (List ℕ)) (id : ℕ) (text wanted : List ℕ) → slice_get names id ≡ Some text → true ≡ same_bytes text wanted → same_bytes (text_at names id) wanted ≡ true
spelled names id text wanted at is = ap (λ o. same_bytes (unwrap_or o []) wanted) at ∙ sym is

module _ (c : Else-not-is_same) where
  abbrev place : ℕ
  place = c.self.inside.from + c.args.index

  abbrev close : ℕ
  close = c.in_ok-close.field-0.now

  abbrev list : List Hidden
  list = c.self.inside.list.value.tokens.items

  abbrev part : List Hidden
  part = take (c.self.inside.to - c.self.inside.from) (drop c.self.inside.from list)

  known : slice_get c.self.inside.list.value.groups.closes.items place ≡ Some close
  known =
      let same : c.deref-2.result.now ≡ c.self.inside.list.value.groups.closes.items = c.deref-2.ensures.value ∙ ap (λ (g : Grouped). g.groups.closes.items) c.deref.ensures in
      ap (λ l. slice_get l place) (sym same)
      ∙ slice_get_read c.deref-2.result.now (length c.deref-2.result.now) place close refl c.in_ok-close.ensures.lookup.3.0 c.in_ok-close.ensures.lookup.1

  some : 0 < close
  some = omega (arith, c.if-close-eq0.false)

  behind : place < close
  behind = closes_behind c.args.names.now list c.self.inside.list.value.groups c.self.inside.from c.self.inside.to c.args.index close c.self.invariant.2 known some

  long : length part ≡ c.self.inside.to - c.self.inside.from
  long = omega (arith, c.self.invariant.0, c.self.invariant.1, length-take (c.self.inside.to - c.self.inside.from) (drop c.self.inside.from list), length-drop c.self.inside.from list)

  in_part : c.args.index < c.self.inside.to - c.self.inside.from
  in_part = omega (arith, long, subst (λ l. c.args.index < length l) (sym c.self.view_is) c.requires.index)

  held : All (λ (h : Hidden). h.token.spelling.0 < length c.args.names.now) part
  held = subst (All (λ (h : Hidden). h.token.spelling.0 < length c.args.names.now)) (sym c.self.view_is) c.requires.names

  first : slice_get list place ≡ Some c.index.result.now
  first =
      let read : c.index.result.now ≡ get_or list place c.index.result.now = c.index.ensures ∙ ap (λ (g : Grouped). get_or g.tokens.items place c.index.result.now) c.deref-3.ensures in
      slice_get_read list (length list) place c.index.result.now refl (omega (arith, in_part, c.self.invariant.1)) read

  last : slice_get list close ≡ Some c.index-2.result.now
  last =
      let read : c.index-2.result.now ≡ get_or list close c.index-2.result.now = c.index-2.ensures ∙ ap (λ (g : Grouped). get_or g.tokens.items close c.index-2.result.now) c.deref-4.ensures in
      slice_get_read list (length list) close c.index-2.result.now refl (omega (arith, c.if-close-self.false, c.self.invariant.1)) read

pub text-requires-else-not-is_same : goal.text-requires-else-not-is_same
text-requires-else-not-is_same c =
    part_at (λ (h : Hidden). h.token.spelling.0 < length c.args.names.now) (list c) c.self.inside.from c.self.inside.to (close c) c.index-2.result.now (omega (arith, behind c)) (omega (arith, c.if-close-self.false)) (held c) (last c)

pub overflow_sub-result : goal.overflow_sub-result
overflow_sub-result c = omega (arith, behind (goal.at.overflow_sub-result c).Else-not-is_same)

pub returns : goal.returns
returns c = (
  omega (arith, behind e, long e, ap length c.self.view_is, c.if-close-self.false),
  subst (λ l. IsParenthesized c.args.names.now l c.args.index (close e - c.self.inside.from)) c.self.view_is
      (parenthesized_within c.args.names.now (list e) c.self.inside.list.value.groups c.self.inside.from c.self.inside.to c.args.index (close e) c.self.invariant.2 (known e) (some e)
      c.index.result.now c.index-2.result.now c.one_to_one.ensures (in_part e) (omega (arith, c.if-close-self.false)) (first e) (last e)
      (spelled c.args.names.now c.index.result.now.token.spelling.0 c.text.result.now (codes "(") c.text.ensures c.if-not-is_same.ensures)
      (spelled c.args.names.now c.index-2.result.now.token.spelling.0 c.text-else-not-is_same.result.now (codes ")") c.text-else-not-is_same.ensures c.if-not-is_same-2.ensures)
      (held e)),
) where
  e : Else-not-is_same
  e = (goal.at.returns c).Else-not-is_same
