use Rattle.std.proofs.Common.{◌≡◌, ◌≤◌, ◌∙◌, ap, arith, length, replicate}
use Rattle.flat_model.proofs.Copies.{zeros-long, zeros-more}
use Rattle.flat_model.proofs.opening.zero_bytes.Goals as goal

pub blocks-2-preserved : goal.blocks-2-preserved
blocks-2-preserved c =
    let few : c.min-more.result ≤ 1024 = omega (arith, c.min-more.ensures) in
    let all = c.deref.ensures.value ∙ c.blocks-2.invariant.zeros in
    let long = zeros-long c.blocks-2.bytes.items c.deref.result.now c.extend_from_slice.new.self.items c.min-more.result 1024
    all c.blocks-2.invariant.bytes few c.in_ok-extend_from_slice.ensures.items in
    record {
      zeros = c.blocks-2.invariant.zeros;
      bytes = zeros-more c.blocks-2.bytes.items c.deref.result.now c.extend_from_slice.new.self.items c.min-more.result 1024
          all c.blocks-2.invariant.bytes few c.in_ok-extend_from_slice.ensures.items;
      within = omega (arith, long, c.min-more.ensures, c.len-in-blocks-2.ensures, c.blocks-2-test.true, c.blocks-2.invariant.within);
    }

pub returns : goal.returns
returns c =
    let full : length c.blocks-2.bytes.items ≡ c.args.n = omega (arith, c.blocks-2.invariant.within, c.blocks-2-test.false, c.len.ensures) in
    c.from_vec.ensures ∙ c.blocks-2.invariant.bytes ∙ ap (λ k. replicate k 0) full
