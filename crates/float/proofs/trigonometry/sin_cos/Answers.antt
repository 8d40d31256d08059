-- `float::trigonometry::sin_cos` meets its contract. Assumes nothing.
use Rattle.float.specs.Trigonometry.{sin_cos_of}
use Rattle.float.proofs.Coefficients.{sine_series, cosine_series}
use Rattle.float.proofs.Quadrants.{cosine_cases}
use Rattle.float.proofs.trigonometry.sin_cos.Goals as goal

pub returns-then-r : goal.returns-then-r
unfolding sin_cos_of
returns-then-r c = simp (c.turned-cosine.ensures, c.turned-sine.ensures, cosine_cases, c.series-cos_s.ensures, c.series.ensures, sine_series, cosine_series, c.quadrant-q.ensures.0, c.abs-a.ensures, c.if-r.true)

pub returns-else-r : goal.returns-else-r
unfolding sin_cos_of
returns-else-r c = simp (c.turned-cosine.ensures, c.turned-sine.ensures, cosine_cases, c.series-cos_s.ensures, c.series.ensures, sine_series, cosine_series, c.quadrant-q.ensures.0, c.abs-a.ensures, c.if-r.false)
