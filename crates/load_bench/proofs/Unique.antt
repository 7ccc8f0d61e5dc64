-- No second result meets the contract of a public function. `Post` is the contract itself, as the function is proved to meet it.
use Rattle.laws.proofs.Only.{Determines, only}
use Rattle.load_bench.proofs.load_bench_answer.Reads as load_bench_answer

-- what loading answers, in one number
pub load_bench_answer_determined : Determines load_bench_answer.Post
load_bench_answer_determined κs a r q s = only
