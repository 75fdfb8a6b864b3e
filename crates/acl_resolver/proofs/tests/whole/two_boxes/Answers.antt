use Rattle.std.proofs.Common.{◌≡◌, ℕ, ◌≤◌, List, [], ◌∷◌, ◌++◌, map, length, refl, sym, subst, ◌∙◌, ap, inl, inr, arith, false, string_bytes}
use Rattle.std.specs.Prelude.{codes, count_by}
use Rattle.std.proofs.lemmas.List.Sums.{count_by-le-length}
use Rattle.addr_base.specs.Rights.{read_write}
use Rattle.flat_model.specs.declared.boards.Board.{Board}
use Rattle.flat_model.specs.declared.parts.DevicePart.{DevicePart}
use Rattle.flat_model.specs.declared.texts.BoxText.{BoxText}
use Rattle.flat_model.specs.declared.texts.GateTexts.{GateTexts}
use Rattle.flat_model.specs.declared.texts.GrantText.{GrantText}
use Rattle.flat_model.specs.Names.{is_name}
use Rattle.flat_model.specs.Sound.{IsBoard}
use Rattle.acl_resolver.specs.Resolvable.{IsBoxText, IsResolvable, is_ring_text}
use Rattle.acl_resolver.specs.Resolve.{parts_of}
use Rattle.acl_resolver.proofs.tests.whole.two_boxes.Goals as goal

abbrev plain : List ℕ → GrantText → BoxText
plain name grant = record {
  name = name;
  size = 256;
  secret = false;
  server = 0;
  threads = record { program = codes "halt"; steps = 10 } ∷ [];
  grants = grant ∷ [];
  irqs = [];
}

plain_good : (name : List ℕ) (grant : GrantText) → is_name name ≡ Rattle.std.specs.Prelude.true → grant.rights ≡ read_write → IsBoxText (plain name grant)
plain_good name grant good rights = record {
  name = good;
  some_size = omega arith;
  size = omega arith;
  server = omega arith;
  few_grants = omega arith;
  few_lines = omega arith;
  threads = (record { some_step = omega arith; few_steps = omega arith }, tt);
  grants = (record { rights = inr (inl rights) }, tt);
  lines = tt;
}

resolvable : (board : Board) (first second : GrantText) (boxes : List BoxText) (gates : GateTexts) (devices : List DevicePart) (words : List (List ℕ))
    → IsBoard board → length board.words ≤ 64 → first.rights ≡ read_write → second.rights ≡ read_write
    → boxes ≡ plain (codes "a") first ∷ plain (codes "b") second ∷ [] → gates.registers ≡ [] → gates.gateways ≡ [] → devices ≡ [] → length words ≤ 1
    → IsResolvable (parts_of board boxes gates devices words)
resolvable board first second boxes gates devices words good few first_rights second_rights boxes_are registers_are gateways_are devices_are short =
    let rings = count_by-le-length is_ring_text words in
    let P : List BoxText → Type 0 = λ texts. IsResolvable (parts_of board texts gates devices words) in
    let Q : List DevicePart → Type 0 = λ parts. IsResolvable (parts_of board (plain (codes "a") first ∷ plain (codes "b") second ∷ []) gates parts words) in
    subst P (sym boxes_are) (subst Q (sym devices_are) (record {
      board = good;
      words = few;
      some_box = omega arith;
      few_boxes = omega arith;
      boxes = (plain_good (codes "a") first refl first_rights, (plain_good (codes "b") second refl second_rights, tt));
      names_once = (refl, (refl, tt));
      one_owner = omega arith;
      threads = omega arith;
      steps = omega arith;
      registers = subst (λ xs. length xs ≤ 32) (sym registers_are) (omega arith);
      gateways = subst (λ xs. length xs ≤ 32) (sym gateways_are) (omega arith);
      devices = omega arith;
      rings = omega arith;
      script = omega (arith, short);
      ring_words = omega (arith, rings, short);
    }))

pub returns : goal.returns
returns c =
    let first : c.push.new.self.items ≡ c.in_ok-plain_box.field-0 ∷ [] =
    c.in_ok-push.ensures.items ∙ ap (λ boxes. boxes ++ c.in_ok-plain_box.field-0 ∷ []) c.new-boxes.ensures.items in
    let both : c.push-2.new.self.items ≡ c.in_ok-plain_box.field-0 ∷ c.in_ok-plain_box-2.field-0 ∷ [] =
    c.in_ok-push-2.ensures.items ∙ ap (λ boxes. boxes ++ c.in_ok-plain_box-2.field-0 ∷ []) first in
    let boxes : c.push-2.new.self.items ≡ plain (codes "a") c.args.first ∷ plain (codes "b") c.args.second ∷ [] =
    both
    ∙ ap (λ b. b ∷ c.in_ok-plain_box-2.field-0 ∷ []) c.in_ok-plain_box.ensures
    ∙ ap (λ b. plain (codes "a") c.args.first ∷ b ∷ []) c.in_ok-plain_box-2.ensures in
    let words : c.push-3.new.self.items ≡ c.in_ok-from_str.field-0 ∷ [] =
    c.in_ok-push-3.ensures.items ∙ ap (λ words. words ++ c.in_ok-from_str.field-0 ∷ []) c.new-script.ensures.items in
    let short : length (map string_bytes c.push-3.new.self.items) ≤ 1 = subst (λ words. length (map string_bytes words) ≤ 1) (sym words) (omega arith) in
    resolvable c.plain_board.result c.args.first c.args.second c.push-2.new.self.items (record { registers = c.from_vec.result; gateways = c.from_vec-2.result })
    c.new-3.result.items (map string_bytes c.push-3.new.self.items) c.plain_board.ensures.good c.plain_board.ensures.few c.requires.first c.requires.second
    boxes (c.from_vec.ensures ∙ c.new.ensures.items) (c.from_vec-2.ensures ∙ c.new-2.ensures.items) c.new-3.ensures.items short
