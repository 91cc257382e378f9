mod NumberRows
