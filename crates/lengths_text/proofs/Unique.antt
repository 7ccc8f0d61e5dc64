-- No second result and no second buffer meet the contract of a public function.
-- `Post` is the contract itself, as the function is proved to meet it.
use Rattle.laws.proofs.Only.{only}
use Rattle.numerals.proofs.Unique.{DeterminesBytes}
use Rattle.lengths_text.proofs.answer.put_answer.Reads as put_answer
use Rattle.lengths_text.proofs.sheet.put_sheet.Reads as put_sheet

-- both lengths, or the refusal
pub put_answer_determined : DeterminesBytes (λ κs s. s.1.1.0.now) put_answer.Post
put_answer_determined κs a r q s t p o = (only p.place o.place, only p.buffer o.buffer)

-- both tables
pub put_sheet_determined : DeterminesBytes (λ κs s. s.0.now) put_sheet.Post
put_sheet_determined κs a r q s t p o = (only p.place o.place, only p.buffer o.buffer)
