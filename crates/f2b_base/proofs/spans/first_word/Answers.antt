use Rattle.std.proofs.Common.{ap, ◌∙◌, ℕ}
use Rattle.rand_core.specs.Stream.{Stream, next_u32}
use Rattle.rand_core.specs.Steps.{stream_of}
use Rattle.rand_pcg.specs.Lcg.{Lcg}
use Rattle.rand_pcg.specs.Pcg.{pcg32}
use Rattle.f2b_base.specs.Span.{first_word}
use Rattle.f2b_base.proofs.spans.first_word.Goals as goal

pub returns : goal.returns
unfolding first_word next_u32 stream_of
returns c = ap (λ (p : ℕ × Stream). p.0) c.random.ensures.drawn ∙ ap (λ (g : Lcg). (pcg32 g).0) c.new.ensures
