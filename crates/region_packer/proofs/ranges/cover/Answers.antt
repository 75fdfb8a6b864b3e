use Rattle.std.proofs.Common.{◌≡◌, true, ◌+◌, ◌^◌, ◌≤◌, [], ◌∷◌, ◌++◌, length, arith, sym, ◌∙◌, ap, subst}
use Rattle.std.specs.Prelude.{All}
use Rattle.std.specs.List.{list_any}
use Rattle.std.proofs.lemmas.List.Elements.{All-from_recursion}
use Rattle.addr_base.specs.declared.rights.Kind.{Kind}
use Rattle.addr_base.specs.Range.{end_of}
use Rattle.addr_base.specs.Rights.{gives}
use Rattle.flat_model.specs.Cover.{attributes, block_pair, cover_of, exponent}
use Rattle.flat_model.specs.Decision.{is_region, matches, pair_gives}
use Rattle.flat_model.proofs.Covers.{IsTiled, OfCover, each-cover_of, length-cover_of, list_any-cover_of}
use Rattle.flat_model.proofs.Elements.{each_weaker}
use Rattle.flat_model.proofs.Placed.{reads_of}
use Rattle.region_packer.proofs.Going.{IsGoing, IsGoing-end, IsGoing-more, IsGoing-start, length-going}
use Rattle.region_packer.proofs.ranges.cover.Goals as goal

pub loop-at-init : goal.loop-at-init
loop-at-init c =
    subst (IsGoing c.args.range c.args.rights c.args.range.base) (sym c.requires.empty)
    (IsGoing-start c.args.range c.args.rights c.requires.base c.requires.len c.requires.end)

pub push-requires : goal.push-requires
push-requires c =
    let start = IsGoing-start c.args.range c.args.rights c.requires.base c.requires.len c.requires.end in
    (omega arith, omega (arith, length-going c.args.range c.args.rights c.loop-at.at c.loop-at.out.items start.span c.loop-at-test.true c.loop-at.invariant))

pub loop-at-preserved : goal.loop-at-preserved
loop-at-preserved c =
    let more = IsGoing-more c.args.range c.args.rights c.loop-at.at c.loop-at.out.items c.loop-at-test.true c.loop-at.invariant in
    let k : c.exponent_at-exponent.result ≡ exponent c.loop-at.at (end_of c.args.range) = c.exponent_at-exponent.ensures.exact in
    let pair : c.region_at.result ≡ block_pair (attributes c.args.rights) (record { base = c.loop-at.at; exponent = exponent c.loop-at.at (end_of c.args.range) }) =
    c.region_at.ensures
    ∙ ap (λ b. block_pair b (record { base = c.loop-at.at; exponent = c.exponent_at-exponent.result })) c.attributes_of-bits.ensures.exact
    ∙ ap (λ e. block_pair (attributes c.args.rights) (record { base = c.loop-at.at; exponent = e })) k in
    let items : c.push.new.self.items ≡ c.loop-at.out.items ++ block_pair (attributes c.args.rights) (record { base = c.loop-at.at; exponent = exponent c.loop-at.at (end_of c.args.range) }) ∷ [] =
    c.push.ensures.items ∙ ap (λ p. c.loop-at.out.items ++ p ∷ []) pair in
    let step : c.loop-at.at + c.bytes_of-at.result ≡ c.loop-at.at + 2 ^ exponent c.loop-at.at (end_of c.args.range) =
    ap (λ n. c.loop-at.at + n) (c.bytes_of-at.ensures ∙ ap (λ e. 2 ^ e) k) in
    subst (λ a. IsGoing c.args.range c.args.rights a c.push.new.self.items) (sym step)
    (subst (IsGoing c.args.range c.args.rights (c.loop-at.at + 2 ^ exponent c.loop-at.at (end_of c.args.range))) (sym items) more)

pub returns-clause-exact : goal.returns-clause-exact
returns-clause-exact c = IsGoing-end c.args.range c.args.rights c.loop-at.at c.loop-at.out.items c.loop-at-test.false c.loop-at.invariant

pub returns-clause-few : goal.returns-clause-few
returns-clause-few c =
    let tiled : IsTiled c.args.range = record { base_whole = c.requires.base; len_whole = c.requires.len; limit = omega (arith, c.requires.end) } in
    let items = IsGoing-end c.args.range c.args.rights c.loop-at.at c.loop-at.out.items c.loop-at-test.false c.loop-at.invariant in
    subst (λ ps. length ps ≤ 54) (sym items) (length-cover_of c.args.range c.args.rights tiled)

pub returns-clause-valid : goal.returns-clause-valid
returns-clause-valid c =
    let tiled : IsTiled c.args.range = record { base_whole = c.requires.base; len_whole = c.requires.len; limit = omega (arith, c.requires.end) } in
    let items = IsGoing-end c.args.range c.args.rights c.loop-at.at c.loop-at.out.items c.loop-at-test.false c.loop-at.invariant in
    subst (All (λ p. is_region p ≡ true)) (sym items)
    (All-from_recursion (λ p. is_region p ≡ true) (cover_of c.args.range c.args.rights)
    (each_weaker (OfCover c.args.range c.args.rights) (λ p. is_region p ≡ true) (λ p of. of.valid) (cover_of c.args.range c.args.rights)
    (each-cover_of c.args.range c.args.rights tiled (reads_of c.args.rights c.requires.rights))))

pub returns-clause-addresses : goal.returns-clause-addresses
returns-clause-addresses c = λ a.
    let tiled : IsTiled c.args.range = record { base_whole = c.requires.base; len_whole = c.requires.len; limit = omega (arith, c.requires.end) } in
    let items = IsGoing-end c.args.range c.args.rights c.loop-at.at c.loop-at.out.items c.loop-at-test.false c.loop-at.invariant in
    ap (list_any (λ p. matches p a)) items ∙ list_any-cover_of c.args.range c.args.rights tiled a

pub returns-clause-kinds : goal.returns-clause-kinds
returns-clause-kinds c =
    let tiled : IsTiled c.args.range = record { base_whole = c.requires.base; len_whole = c.requires.len; limit = omega (arith, c.requires.end) } in
    let items = IsGoing-end c.args.range c.args.rights c.loop-at.at c.loop-at.out.items c.loop-at-test.false c.loop-at.invariant in
    subst (All (λ p. (kind : Kind) → pair_gives p kind ≡ gives c.args.rights kind)) (sym items)
    (All-from_recursion (λ p. (kind : Kind) → pair_gives p kind ≡ gives c.args.rights kind) (cover_of c.args.range c.args.rights)
    (each_weaker (OfCover c.args.range c.args.rights) (λ p. (kind : Kind) → pair_gives p kind ≡ gives c.args.rights kind) (λ p of. of.given) (cover_of c.args.range c.args.rights)
    (each-cover_of c.args.range c.args.rights tiled (reads_of c.args.rights c.requires.rights))))
