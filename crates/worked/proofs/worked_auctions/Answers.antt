use Rattle.worked.proofs.Rows.{row_better_customer, row_others_in_proportion, row_customer_in_the_book, row_customer_and_response, row_better_in_the_book, row_better_response, row_block_at_one_price}
use Rattle.worked.proofs.worked_auctions.Goals as goal

pub returns : goal.returns
returns c =
    (row_better_customer, (row_others_in_proportion, (row_customer_in_the_book, (row_customer_and_response, (row_better_in_the_book, (row_better_response, (row_block_at_one_price, tt)))))))
